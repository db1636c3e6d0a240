-- The laws follow from the invariant.
use Rattle.std.proofs.Common.{◌≡◌, ◌≢◌, ℕ, ◌+◌, ◌*◌, ◌⊎◌, inl, inr, Bool, true, false, Option, Some, None, refl, sym, subst, ◌∙◌, if◌then◌else◌, arith}
use Rattle.std.proofs.lemmas.Bool.{cases_eq}
use Rattle.std.proofs.lemmas.Bool.Decides.{nat_tests}
use Rattle.core_data.specs.Columns.{Columns}
use Rattle.core_gives.specs.Queues.{is_at}
use Rattle.core_invariant.specs.Invariant.{Holds}
use Rattle.core_invariant.specs.Journals.{RulesKept}
use Rattle.core_invariant.specs.Sleepers.{IsOwed, IsSafeSleeper, IsAwake}
use Rattle.core_journals.specs.Places.{place_of, q_of}
use Rattle.core_law.specs.Laws.{OneRunAtATime, StandsOnce, WakesQueueAtMostOnce, NoLostWake, IsOwedByASeat, SleepersWait, SleepsOnItsProcessor, journals_of}
use Rattle.handoff_data.specs.declared.entry.Entry.{Entry}
use Rattle.handoff_data.specs.declared.entry.Entry.TheVariants as entry
use Rattle.handoff_data.specs.declared.place.Q.TheVariants as q
use Rattle.handoff_data.specs.declared.state.State.{State}
use Rattle.handoff_data.specs.History.{History}
use Rattle.handoff_data.specs.Numbers.{Change, Waking, run_of}
use Rattle.handoff_data.specs.Positions.{IsSomewhere}
use Rattle.journal_laws.specs.Laws.{AreNumbered}
use Rattle.journal_laws.proofs.Kept.{KeepsOrder}
use Rattle.journal_laws.proofs.Numbering.{Has}
use Rattle.journal_laws.proofs.Once.{one-position, first-same, second-same}
use Rattle.journal_laws.proofs.RunLaws.{numbered, run-of, alternates, positive}
use Rattle.journal_laws.proofs.WakeLaws.{woken}

order-of : (j : History) → RulesKept j → KeepsOrder j
order-of j rules =
    record {
      not_repeated = rules.not_repeated;
      chained = rules.chained;
      caused = rules.caused;
      runs_alternate = rules.runs_alternate;
    }

-- ---- wakes

pub wakes-queue_at_most_once : (core : Columns) → Holds core → WakesQueueAtMostOnce (journals_of core)
wakes-queue_at_most_once core holds =
    let j = journals_of core in
    let rules = order-of j holds.journals.rules in
    record {
      one_queueing = λ t m s i s' i' c c' b b' at at'. one-position j rules (Change t m) s i s' i' _ _ at at' refl refl;
      woken = woken j rules;
      woken_ahead = λ t m c s i at. let cause = holds.journals.rules.caused s i (entry.Enq t m c false) at in (cause.0, cause.1);
      one_wake = λ t m s i s' i' at at'. one-position j rules (Waking t m) s i s' i' _ _ at at' refl refl;
    }

-- ---- sleepers

-- who owes a walk is a seat of the shape
owed_by : (core : Columns) (k t : ℕ) → Holds core → IsOwed core.owes_walk core.has_retaken core.has_passed k t → IsOwedByASeat core k t
owed_by core k t holds owed = (owed.0, (holds.shapes.owes owed.0 k owed.1).0, owed.1, owed.2)

owed : (core : Columns) (k t tested : ℕ) → Holds core → IsSafeSleeper core k t → (IsAwake (core.state t) → ⊥) → core.tested (core.cpu t) t k ≡ Some tested → tested ≢ core.cond k
    → IsOwedByASeat core k t
owed core k t tested holds safe asleep test other =
    elim safe [
      | inl awake ↦ absurd (asleep awake)
      | inr (inl right) ↦ absurd (elim right [ inl a ↦ grind (arith, test, a) | inr a ↦ grind (arith, test, a, other) ])
      | inr (inr is) ↦ owed_by core k t holds is
    ]

pub no-lost_wake : (core : Columns) → Holds core → NoLostWake core
no-lost_wake core holds =
    λ k t tested waits asleep test other.
    elim waits [
      | inl home ↦ owed core k t tested holds (holds.sleepers.safe_home k t home.0 home.1 home.2) asleep test other
      | inr out ↦ owed core k t tested holds (holds.sleepers.safe_out out.0 k t out.1 out.2 out.3) asleep test other
    ]

pub sleepers-wait : (core : Columns) → Holds core → SleepersWait core
sleepers-wait core holds =
    record {
      home = λ k t entries asleep state is. holds.sleepers.entry_home k t entries asleep state is;
      out = λ s k t taken asleep state is. holds.sleepers.entry_out s k t taken asleep state is;
    }

pub sleeps-on_its_processor : (core : Columns) → Holds core → SleepsOnItsProcessor core
sleeps-on_its_processor core holds =
    λ t off asleep.
    holds.journals.last_changes.asleep t (λ new. grind (arith, nat_tests, holds.places.new_states.runnable t new, asleep)) off
    (λ h. grind (arith, nat_tests, asleep, h)) (λ h. grind (arith, nat_tests, asleep, h))

-- ---- queues

on-words : (changes on_rq cpu c : ℕ) (state : State) (lock : Option ℕ) → q_of changes on_rq state cpu lock ≡ q.On c → (on_rq ≡ 1) × (cpu ≡ c)
on-words changes on_rq cpu c state None on = grind (arith, nat_tests, on)
on-words changes on_rq cpu c state (Some s) on = grind (arith, nat_tests, on)

on-at : (core : Columns) (t c : ℕ) → (place_of core t).q ≡ q.On c → is_at core.on_rq core.cpu c t ≡ true
on-at core t c on =
    let words = on-words (core.changes t) (core.on_rq t) (core.cpu t) c (core.state t) (core.lock t) on in
    grind (arith, nat_tests, words)

at-on : (core : Columns) → Holds core → (t c : ℕ) → is_at core.on_rq core.cpu c t ≡ true → (place_of core t).q ≡ q.On c
at-on core holds t c is =
    let started : core.changes t ≢ 0 = λ new. grind (arith, nat_tests, is, holds.places.new.off t new) in
    grind (arith, nat_tests, is, started)

one-if : (b : Bool) → b ≡ true → ◌≡◌ {A = ℕ} (if b then 1 else 0) 1
one-if true h = refl
one-if false h = absurd (grind (arith, h))

none-if : (b : Bool) → (b ≡ true → ⊥) → ◌≡◌ {A = ℕ} (if b then 1 else 0) 0
none-if true h = absurd (h refl)
none-if false h = refl

pub stands-once : (core : Columns) → Holds core → StandsOnce core
stands-once core holds =
    record {
      here = λ t c val on home. holds.queues.at_home c val home t ∙ one-if _ (on-at core t c on);
      nowhere_else = λ t c val off home. holds.queues.at_home c val home t ∙ none-if _ (λ is. off (at-on core holds t c is));
      here_out = λ s t c taken out added dropped on. holds.queues.left s c taken t out added dropped ∙ one-if _ (on-at core t c on);
      nowhere_else_out = λ s t c taken out added dropped off. holds.queues.left s c taken t out added dropped ∙ none-if _ (λ is. off (at-on core holds t c is));
    }

-- ---- runs

-- the last run entry of t stands in some journal
has-last : (core : Columns) → Holds core → (t : ℕ) → core.runs t ≢ 0 → Has run_of (journals_of core) t (core.runs t)
has-last core holds t some =
    let runs = holds.journals.last_runs in
    elim (cases_bool (core.on_cpu t)) [
      | inl busy ↦ let at = runs.busy t busy in (entry.Pick t (core.runs t) (core.cpu t), (core.cpu t, at), refl)
      | inr idle ↦ let at = runs.idle t idle some in (entry.Finish t (core.runs t) at.0, at.1, refl)
    ]
  where
    cases_bool : (b : Bool) → (b ≡ true) ⊎ (b ≡ false)
    cases_bool true = inl refl
    cases_bool false = inr refl

-- where a task never ran there is no number
none-numbered : (core : Columns) → Holds core → (t : ℕ) → core.runs t ≡ 0 → AreNumbered run_of (journals_of core) t (core.runs t)
none-numbered core holds t none =
    let j = journals_of core in
    let rules = order-of j holds.journals.rules in
    let no_run : (e : Entry) (n : ℕ) → IsSomewhere j e → run_of e ≡ Some (t, n) → ⊥ = λ e n at is.
    let some = positive j rules t n e at is in
    let most = holds.journals.numbered.run at.0 at.1.0 e t n at.1.1 is in
    omega (arith, some, most, none) in
    record {
      within = λ e n at is. absurd (no_run e n at is);
      each = λ n some most. absurd (omega (arith, some, most, none));
      once = λ n s i s' i' e e' at at' is is'. absurd (no_run e n (s, (i, at)) is);
    }

all-numbered : (core : Columns) → Holds core → (t : ℕ) → AreNumbered run_of (journals_of core) t (core.runs t)
all-numbered core holds t =
    let j = journals_of core in
    let rules = order-of j holds.journals.rules in
    elim (cases_eq (core.runs t) 0) [
      | inl none ↦ none-numbered core holds t none
      | inr some ↦ numbered j rules t (core.runs t) (has-last core holds t some) (λ e n at is. holds.journals.numbered.run at.0 at.1.0 e t n at.1.1 is)
    ]

-- the entry with an odd number is a pick
begins-with : (j : History) → KeepsOrder j → (t k : ℕ) (e : Entry) → IsSomewhere j e → run_of e ≡ Some (t, 2 * k + 1) → (c : ℕ) × IsSomewhere j (entry.Pick t (2 * k + 1) c)
begins-with j rules t k (entry.Pick t' n c) at is =
    (c, subst (λ (m : ℕ). IsSomewhere j (entry.Pick t m c)) (second-same t' n t (2 * k + 1) is) (subst (λ (u : ℕ). IsSomewhere j (entry.Pick u n c)) (first-same t' n t (2 * k + 1) is) at))
begins-with j rules t k (entry.Finish t' n c) at is =
    let even = alternates j rules at.0 at.1.0 (entry.Finish t' n c) at.1.1 in
    let same = second-same t' n t (2 * k + 1) is in
    absurd (omega (arith, even.0, same))
begins-with j rules t k _ at is = absurd cc

pub one-run_at_a_time : (core : Columns) → Holds core → OneRunAtATime core
one-run_at_a_time core holds =
    let j = journals_of core in
    let rules = order-of j holds.journals.rules in
    let runner = holds.busy.runner in
    record {
      one_seat = λ s s' t here there. sym (runner.current_here s t here) ∙ runner.current_here s' t there;
      in_turn = λ t.
          let all = all-numbered core holds t in
          record {
            numbered = all;
            begins = λ k most. let has = all.each (2 * k + 1) (omega arith) most in begins-with j rules t k has.0 has.1 has.2;
            ends = λ k most. let has = all.each (2 * k + 2) (omega arith) most in run-of j rules t k has.0 has.1 has.2;
          };
    }
