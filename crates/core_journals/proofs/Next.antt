-- The new entries: each may be the next in its journal.
use Rattle.std.proofs.Common.{◌≡◌, ◌≢◌, ℕ, ◌+◌, ◌-◌, ◌<◌, refl, sym, subst, ◌∙◌, arith}
use Rattle.std.specs.Prelude.{◌%◌, Bool, true, false}
use Rattle.core_invariant.specs.Journals.{EachKeeps, Numbered, LastRuns}
use Rattle.core_journals.proofs.NewEntries.{unlike-change, unlike-run, unlike-none, highest-change, highest-run, highest-none, wake-found}
use Rattle.core_journals.proofs.RulesLog.{IsNext}
use Rattle.handoff_data.specs.History.{History}
use Rattle.handoff_data.specs.Numbers.{change_of, run_of}
use Rattle.handoff_data.specs.Positions.{Stands, IsIn, IsBefore, IsSomewhere}
use Rattle.handoff_data.specs.Rules.{RisesInJournal, IsQueued, IsSleep, IsListed, IsRunning}
use Rattle.handoff_data.specs.declared.entry.Entry.{Entry}
use Rattle.handoff_data.specs.declared.entry.Entry.TheVariants as entry
use Rattle.handoff_data.specs.declared.state.State.{State}

-- the number before the next one
back : (m : ℕ) → m ≡ m + 1 - 1
back m = omega arith

pub next-refused : (j : History) (s n t : ℕ) (state : State) → t < j.tasks → IsNext j s n (entry.Refused t state)
next-refused j s n t state task =
    let made : Entry = entry.Refused t state in
    record {
      plain = tt;
      in_range = task;
      unlike = unlike-none j made refl;
      chained = tt;
      no_list = λ u m c e q. grind (arith, q);
      caused = tt;
      changes = highest-none change_of j s made refl;
      runs = highest-none run_of j s made refl;
      alternates = tt;
      leaves = tt;
    }

pub next-wake : (j : History) (s n t m : ℕ) → t < j.tasks → IsSleep j t m → ((k i : ℕ) → Stands j k i (entry.Wake t m) → ⊥) → IsNext j s n (entry.Wake t m)
next-wake j s n t m task sleep first =
    let made : Entry = entry.Wake t m in
    record {
      plain = tt;
      in_range = task;
      unlike = λ k i x g h is is'. first k i (subst (λ z. Stands j k i z) (wake-found x t m (is' ∙ sym is)) h);
      chained = tt;
      no_list = λ u k c e q. grind (arith, q);
      caused = sleep;
      changes = highest-none change_of j s made refl;
      runs = highest-none run_of j s made refl;
      alternates = tt;
      leaves = tt;
    }

pub next-new : (j : History) {changes runs : ℕ → ℕ} (s n t c : ℕ) → Numbered j changes runs → t < j.tasks → c < j.cpus → changes t ≡ 0 → IsNext j s n (entry.New t (changes t + 1) c)
next-new j {changes} s n t c p task cpu never =
    let made : Entry = entry.New t (changes t + 1) c in
    record {
      plain = tt;
      in_range = (task, cpu);
      unlike = unlike-change p made t refl;
      chained = omega (arith, never);
      no_list = λ u m d e q. grind (arith, q);
      caused = tt;
      changes = highest-change p s made t refl;
      runs = highest-none run_of j s made refl;
      alternates = tt;
      leaves = tt;
    }

pub next-enq : (j : History) {changes runs : ℕ → ℕ} (s n t c : ℕ) → Numbered j changes runs → t < j.tasks → c < j.cpus → changes t ≢ 0 → IsSleep j t (changes t)
    → IsBefore j s n (entry.Wake t (changes t)) → (IsListed j t (changes t) → ⊥)
    → IsNext j s n (entry.Enq t (changes t + 1) c false)
next-enq j {changes} s n t c p task cpu some sleep wake unlisted =
    let made : Entry = entry.Enq t (changes t + 1) c false in
    record {
      plain = tt;
      in_range = (task, cpu, λ q. absurd (grind (arith, q)));
      unlike = unlike-change p made t refl;
      chained = (omega (arith, some), subst (λ z. IsSleep j t z) (back (changes t)) sleep);
      no_list = λ u m d e q. grind (arith, q);
      caused = (omega arith, subst (λ z. IsBefore j s n (entry.Wake t z)) (back (changes t)) wake, subst (λ z. IsListed j t z → ⊥) (back (changes t)) unlisted);
      changes = highest-change p s made t refl;
      runs = highest-none run_of j s made refl;
      alternates = tt;
      leaves = tt;
    }

pub next-in : (j : History) {changes runs : ℕ → ℕ} (s n t c d : ℕ) → Numbered j changes runs → t < j.tasks → c < j.cpus → changes t ≢ 0 → IsIn j s (entry.Out t (changes t) d)
    → IsNext j s n (entry.In t (changes t + 1) c)
next-in j {changes} s n t c d p task cpu some out =
    let made : Entry = entry.In t (changes t + 1) c in
    record {
      plain = tt;
      in_range = (task, cpu);
      unlike = unlike-change p made t refl;
      chained = (omega (arith, some), (d, subst (λ z. IsIn j s (entry.Out t z d)) (back (changes t)) out));
      no_list = λ u m d e q. grind (arith, q);
      caused = tt;
      changes = highest-change p s made t refl;
      runs = highest-none run_of j s made refl;
      alternates = tt;
      leaves = tt;
    }

pub next-out : (j : History) {changes runs : ℕ → ℕ} (s n t c : ℕ) → Numbered j changes runs → t < j.tasks → c < j.cpus → changes t ≢ 0 → IsQueued j t (changes t) c
    → IsNext j s n (entry.Out t (changes t + 1) c)
next-out j {changes} s n t c p task cpu some queued =
    let made : Entry = entry.Out t (changes t + 1) c in
    record {
      plain = tt;
      in_range = (task, cpu);
      unlike = unlike-change p made t refl;
      chained = (omega (arith, some), subst (λ z. IsQueued j t z c) (back (changes t)) queued);
      no_list = λ u m d e q. grind (arith, q);
      caused = tt;
      changes = highest-change p s made t refl;
      runs = highest-none run_of j s made refl;
      alternates = tt;
      leaves = tt;
    }

pub next-sleep : (j : History) {changes runs : ℕ → ℕ} (s n t : ℕ) → Numbered j changes runs → t < j.tasks → s < j.cpus → changes t ≢ 0 → IsQueued j t (changes t) s → IsRunning j s n t
    → IsNext j s n (entry.Sleep t (changes t + 1) s)
next-sleep j {changes} s n t p task cpu some queued runs =
    let made : Entry = entry.Sleep t (changes t + 1) s in
    record {
      plain = tt;
      in_range = (task, cpu, refl);
      unlike = unlike-change p made t refl;
      chained = (omega (arith, some), subst (λ z. IsQueued j t z s) (back (changes t)) queued);
      no_list = λ u m d e q. grind (arith, q);
      caused = tt;
      changes = highest-change p s made t refl;
      runs = highest-none run_of j s made refl;
      alternates = tt;
      leaves = runs;
    }

pub next-die : (j : History) {changes runs : ℕ → ℕ} (s n t : ℕ) → Numbered j changes runs → t < j.tasks → s < j.cpus → changes t ≢ 0 → IsQueued j t (changes t) s → IsRunning j s n t
    → IsNext j s n (entry.Die t (changes t + 1) s)
next-die j {changes} s n t p task cpu some queued runs =
    let made : Entry = entry.Die t (changes t + 1) s in
    record {
      plain = tt;
      in_range = (task, cpu, refl);
      unlike = unlike-change p made t refl;
      chained = (omega (arith, some), subst (λ z. IsQueued j t z s) (back (changes t)) queued);
      no_list = λ u m d e q. grind (arith, q);
      caused = tt;
      changes = highest-change p s made t refl;
      runs = highest-none run_of j s made refl;
      alternates = tt;
      leaves = runs;
    }

pub next-pick : (j : History) {changes runs : ℕ → ℕ} (s n t : ℕ) → Numbered j changes runs → t < j.tasks → s < j.cpus → runs t % 2 ≡ 0
    → (runs t ≢ 0 → (c : ℕ) × IsSomewhere j (entry.Finish t (runs t) c)) → IsNext j s n (entry.Pick t (runs t + 1) s)
next-pick j {runs = runs} s n t p task cpu even finish =
    let made : Entry = entry.Pick t (runs t + 1) s in
    record {
      plain = tt;
      in_range = (task, cpu, refl);
      unlike = unlike-run p made t refl;
      chained = tt;
      no_list = λ u m d e q. grind (arith, q);
      caused = tt;
      changes = highest-none change_of j s made refl;
      runs = highest-run p s made t refl;
      alternates = (omega (arith, even), λ later. let r = finish (omega (arith, later)) in (r.0, subst (λ z. IsSomewhere j (entry.Finish t z r.0)) (back (runs t)) r.1));
      leaves = tt;
    }

pub next-finish : (j : History) {changes runs : ℕ → ℕ} (s n t : ℕ) → Numbered j changes runs → t < j.tasks → s < j.cpus → runs t % 2 ≡ 1 → IsBefore j s n (entry.Pick t (runs t) s)
    → IsNext j s n (entry.Finish t (runs t + 1) s)
next-finish j {runs = runs} s n t p task cpu odd pick =
    let made : Entry = entry.Finish t (runs t + 1) s in
    record {
      plain = tt;
      in_range = (task, cpu, refl);
      unlike = unlike-run p made t refl;
      chained = tt;
      no_list = λ u m d e q. grind (arith, q);
      caused = tt;
      changes = highest-none change_of j s made refl;
      runs = highest-run p s made t refl;
      alternates = (omega (arith, odd), omega arith, subst (λ z. IsBefore j s n (entry.Pick t z s)) (back (runs t)) pick);
      leaves = tt;
    }

-- before the end of the journal of its processor's seat, the last run entry of a busy task is a pick
pub running-now : (j : History) {on_cpu : ℕ → Bool} {changes runs cpu : ℕ → ℕ} (s n t : ℕ) → LastRuns j on_cpu runs cpu → Numbered j changes runs → EachKeeps RisesInJournal j → on_cpu t ≡ true
    → cpu t ≡ s
    → ((i : ℕ) (x : Entry) → Stands j s i x → i < n) → IsRunning j s n t
running-now j {runs = runs} s n t p numbered rises busy here within =
    let pick : IsIn j s (entry.Pick t (runs t) s) = subst (λ z. IsIn j z (entry.Pick t (runs t) z)) here (p.busy t busy) in (
      pick.0,
      runs t,
      s,
      within pick.0 _ pick.1,
      pick.1,
      λ k m x later lt g is.
          let above = (rises s k x g).runs t m is pick.0 (runs t) _ later pick.1 refl in
          let below = numbered.run s k x t m g is in
          omega (arith, above, below),
    )
