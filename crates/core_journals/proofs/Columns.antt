-- What the words of tasks say of the journals, after an entry more, or after a store of a word of task t.
use Rattle.std.proofs.Common.{◌≡◌, ◌≢◌, ℕ, ◌+◌, ◌<◌, ◌≤◌, inl, inr, Option, Some, None, sym, ap, ◌∙◌, arith}
use Rattle.std.specs.Prelude.{◌^◌, Bool, false, if◌then◌else◌}
use Rattle.std.proofs.lemmas.Bool.Decides.{nat_tests}
use Rattle.core_data.specs.Columns.{put}
use Rattle.core_invariant.specs.Journals.{Numbered, LastChanges, Wakes, LastRuns}
use Rattle.core_invariant.proofs.Logs.{Logged}
use Rattle.core_journals.proofs.Kept.{IsNoList}
use Rattle.core_journals.proofs.NewEntries.{same-first, same-second}
use Rattle.core_journals.proofs.Rows.{rows, LastRow, WakeRow, RunRow, last-row, last-rows, wake-row, wake-rows, run-row, run-rows}
use Rattle.core_journals.proofs.RowsKept.{LastRow-log, LastRow-lock, LastRow-cpu, WakeRow-log, WakeRow-change, WakeRow-still, WakeRow-wakes, RunRow-log, RunRow-cpu}
use Rattle.core_kinds.specs.Steps.{waking}
use Rattle.handoff_data.specs.History.{History}
use Rattle.handoff_data.specs.Numbers.{change_of, run_of}
use Rattle.handoff_data.specs.Positions.{Stands}
use Rattle.handoff_data.specs.declared.entry.Entry.{Entry}
use Rattle.handoff_data.specs.declared.entry.Entry.TheVariants as entry
use Rattle.handoff_data.specs.declared.state.State.{State}

-- numbers

number-log : {before after : History} {s n : ℕ} {e : Entry} (number : Entry → Option (ℕ × ℕ)) (last : ℕ → ℕ) → Logged before after s n e → number e ≡ None
    → ((k i : ℕ) (x : Entry) (t m : ℕ) → Stands before k i x → number x ≡ Some (t, m) → m ≤ last t) → (k i : ℕ) (x : Entry) (t m : ℕ) → Stands after k i x → number x ≡ Some (t, m) → m ≤ last t
number-log number last l none p k i x t m h is = elim (l.log k i x h) [ inl a ↦ p k i x t m a is | inr b ↦ absurd (let r = sym is ∙ ap number b.2 ∙ none in grind (arith, r)) ]

number-next : {before after : History} {s n : ℕ} {e : Entry} (number : Entry → Option (ℕ × ℕ)) (last : ℕ → ℕ) (t : ℕ) → Logged before after s n e → number e ≡ Some (t, last t + 1)
    → ((k i : ℕ) (x : Entry) (u m : ℕ) → Stands before k i x → number x ≡ Some (u, m) → m ≤ last u) → (k i : ℕ) (x : Entry) (u m : ℕ) → Stands after k i x → number x ≡ Some (u, m)
    → m ≤ put last t (last t + 1) u
number-next number last t l next p k i x u m h is = elim (l.log k i x h) [
  | inl a ↦ let r = p k i x u m a is in grind (arith, nat_tests, r)
  | inr b ↦ let q = sym next ∙ ap number (sym b.2) ∙ is in let t-is = same-first t (last t + 1) u m q in let m-is = same-second t (last t + 1) u m q in grind (arith, nat_tests, t-is, m-is)
]

pub Numbered-log : {before after : History} {s n : ℕ} {e : Entry} {changes runs : ℕ → ℕ} → Logged before after s n e → change_of e ≡ None → run_of e ≡ None → Numbered before changes runs
    → Numbered after changes runs
Numbered-log {changes = changes} {runs} l no-change no-run p =
    record { change = number-log change_of changes l no-change p.change; run = number-log run_of runs l no-run p.run; changes_end = p.changes_end; runs_end = p.runs_end }

pub Numbered-change : {before after : History} {s n : ℕ} {e : Entry} {changes runs : ℕ → ℕ} (t : ℕ) → Logged before after s n e → change_of e ≡ Some (t, changes t + 1) → run_of e ≡ None
    → changes t < 2 ^ 60
    → Numbered before changes runs → Numbered after (put changes t (changes t + 1)) runs
Numbered-change {changes = changes} {runs} t l next no-run room p =
    record {
      change = number-next change_of changes t l next p.change;
      run = number-log run_of runs l no-run p.run;
      changes_end = λ u. let r = p.changes_end u in grind (arith, nat_tests, r, room);
      runs_end = p.runs_end;
    }

pub Numbered-run : {before after : History} {s n : ℕ} {e : Entry} {changes runs : ℕ → ℕ} (t : ℕ) → Logged before after s n e → change_of e ≡ None → run_of e ≡ Some (t, runs t + 1) → runs t < 2 ^ 60
    → Numbered before changes runs → Numbered after changes (put runs t (runs t + 1))
Numbered-run {changes = changes} {runs} t l no-change next room p =
    record {
      change = number-log change_of changes l no-change p.change;
      run = number-next run_of runs t l next p.run;
      changes_end = p.changes_end;
      runs_end = λ u. let r = p.runs_end u in grind (arith, nat_tests, r, room);
    }

-- the last changes

pub LastChanges-log : {before after : History} {s n : ℕ} {e : Entry} {state : ℕ → State} {on_rq changes cpu : ℕ → ℕ} {on_cpu : ℕ → Bool} {lock : ℕ → Option ℕ} → Logged before after s n e
    → LastChanges before state on_rq changes cpu on_cpu lock → LastChanges after state on_rq changes cpu on_cpu lock
LastChanges-log l p = last-rows (λ u. LastRow-log l (last-row p u))

pub LastChanges-change : {before after : History} {s n : ℕ} {e : Entry} {state : ℕ → State} {on_rq changes cpu : ℕ → ℕ} {on_cpu : ℕ → Bool} {lock : ℕ → Option ℕ} (t on m : ℕ)
    → Logged before after s n e
    → LastRow after t (state t) on m (cpu t) (on_cpu t) (lock t) → LastChanges before state on_rq changes cpu on_cpu lock → LastChanges after state (put on_rq t on) (put changes t m) cpu on_cpu lock
LastChanges-change {after = after} {state = state} {on_rq} {changes} {cpu} {on_cpu} {lock} t on m l here p =
    last-rows (rows t (λ u b. LastRow after u (state u) (if b then on else on_rq u) (if b then m else changes u) (cpu u) (on_cpu u) (lock u)) here (λ u q. LastRow-log l (last-row p u)))

pub LastChanges-lock : {j : History} {state : ℕ → State} {on_rq changes cpu : ℕ → ℕ} {on_cpu : ℕ → Bool} {lock : ℕ → Option ℕ} (t : ℕ) (new : Option ℕ) → on_rq t ≢ 2
    → LastChanges j state on_rq changes cpu on_cpu lock → LastChanges j state on_rq changes cpu on_cpu (put lock t new)
LastChanges-lock {j} {state} {on_rq} {changes} {cpu} {on_cpu} {lock} t new still p =
    last-rows (rows t (λ u b. LastRow j u (state u) (on_rq u) (changes u) (cpu u) (on_cpu u) (if b then new else lock u)) (LastRow-lock new still (last-row p t)) (λ u q. last-row p u))

pub LastChanges-state : {j : History} {state : ℕ → State} {on_rq changes cpu : ℕ → ℕ} {on_cpu : ℕ → Bool} {lock : ℕ → Option ℕ} (t : ℕ) (new : State)
    → LastRow j t new (on_rq t) (changes t) (cpu t) (on_cpu t) (lock t)
    → LastChanges j state on_rq changes cpu on_cpu lock → LastChanges j (put state t new) on_rq changes cpu on_cpu lock
LastChanges-state {j} {state} {on_rq} {changes} {cpu} {on_cpu} {lock} t new here p =
    last-rows (rows t (λ u b. LastRow j u (if b then new else state u) (on_rq u) (changes u) (cpu u) (on_cpu u) (lock u)) here (λ u q. last-row p u))

pub LastChanges-busy : {j : History} {state : ℕ → State} {on_rq changes cpu : ℕ → ℕ} {on_cpu : ℕ → Bool} {lock : ℕ → Option ℕ} (t : ℕ) (new : Bool)
    → LastRow j t (state t) (on_rq t) (changes t) (cpu t) new (lock t)
    → LastChanges j state on_rq changes cpu on_cpu lock → LastChanges j state on_rq changes cpu (put on_cpu t new) lock
LastChanges-busy {j} {state} {on_rq} {changes} {cpu} {on_cpu} {lock} t new here p =
    last-rows (rows t (λ u b. LastRow j u (state u) (on_rq u) (changes u) (cpu u) (if b then new else on_cpu u) (lock u)) here (λ u q. last-row p u))

pub LastChanges-cpu : {j : History} {state : ℕ → State} {on_rq changes cpu : ℕ → ℕ} {on_cpu : ℕ → Bool} {lock : ℕ → Option ℕ} (t c : ℕ) → on_rq t ≢ 1 → (on_rq t ≡ 0 → on_cpu t ≡ false)
    → (changes t ≢ 0 → on_rq t ≡ 0 → state t ≡ waking) → LastChanges j state on_rq changes cpu on_cpu lock → LastChanges j state on_rq changes (put cpu t c) on_cpu lock
LastChanges-cpu {j} {state} {on_rq} {changes} {cpu} {on_cpu} {lock} t c off idle woken p =
    last-rows (rows t (λ u b. LastRow j u (state u) (on_rq u) (changes u) (if b then c else cpu u) (on_cpu u) (lock u)) (LastRow-cpu c off idle woken (last-row p t)) (λ u q. last-row p u))

-- wakes

-- an entry that is neither a listing nor a wake
abbrev pub IsNoWake : Entry → Type 0
IsNoWake e = (t m : ℕ) → e ≢ entry.Wake t m

pub Wakes-log : {before after : History} {s n : ℕ} {e : Entry} {state : ℕ → State} {on_rq changes : ℕ → ℕ} {lock : ℕ → Option ℕ} → Logged before after s n e → IsNoList e → IsNoWake e
    → Wakes before state on_rq changes lock → Wakes after state on_rq changes lock
Wakes-log l none other p = wake-rows (λ u. WakeRow-log l none (other u) (wake-row p u))

pub Wakes-change : {before after : History} {s n : ℕ} {e : Entry} {state : ℕ → State} {on_rq changes : ℕ → ℕ} {lock : ℕ → Option ℕ} (t on : ℕ) → Logged before after s n e → IsNoList e → IsNoWake e
    → (on ≡ 0 → state t ≢ waking)
    → Wakes before state on_rq changes lock → Wakes after state (put on_rq t on) (put changes t (changes t + 1)) lock
Wakes-change {after = after} {state = state} {on_rq} {changes} {lock} t on l none other still p =
    wake-rows (rows t (λ u b. WakeRow after u (state u) (if b then on else on_rq u) (if b then changes t + 1 else changes u) (lock u))
    (WakeRow-change on still (WakeRow-log l none (other t) (wake-row p t))) (λ u q. WakeRow-log l none (other u) (wake-row p u)))

pub Wakes-lock : {j : History} {state : ℕ → State} {on_rq changes : ℕ → ℕ} {lock : ℕ → Option ℕ} (t : ℕ) (new : Option ℕ) → (on_rq t ≡ 0 → state t ≢ waking)
    → Wakes j state on_rq changes lock → Wakes j state on_rq changes (put lock t new)
Wakes-lock {j} {state} {on_rq} {changes} {lock} t new still p =
    wake-rows (rows t (λ u b. WakeRow j u (state u) (on_rq u) (changes u) (if b then new else lock u)) (WakeRow-still (state t) new (λ h w q. still h w) still (wake-row p t)) (λ u q. wake-row p u))

pub Wakes-state : {j : History} {state : ℕ → State} {on_rq changes : ℕ → ℕ} {lock : ℕ → Option ℕ} (t : ℕ) (new : State) → (on_rq t ≡ 0 → state t ≢ waking) → (on_rq t ≡ 0 → new ≢ waking)
    → Wakes j state on_rq changes lock → Wakes j (put state t new) on_rq changes lock
Wakes-state {j} {state} {on_rq} {changes} {lock} t new was still p =
    wake-rows (rows t (λ u b. WakeRow j u (if b then new else state u) (on_rq u) (changes u) (lock u)) (WakeRow-still new (lock t) (λ h w q. was h w) still (wake-row p t)) (λ u q. wake-row p u))

pub Wakes-wake : {before after : History} {s n : ℕ} {state : ℕ → State} {on_rq changes : ℕ → ℕ} {lock : ℕ → Option ℕ} (t : ℕ) → Logged before after s n (entry.Wake t (changes t)) → on_rq t ≡ 0
    → state t ≢ waking → lock t ≡ Some s
    → Wakes before state on_rq changes lock → Wakes after (put state t waking) on_rq changes lock
Wakes-wake {after = after} {state = state} {on_rq} {changes} {lock} t l off awake locked p =
    wake-rows (rows t (λ u b. WakeRow after u (if b then waking else state u) (on_rq u) (changes u) (lock u)) (WakeRow-wakes l off awake locked (wake-row p t))
    (λ u q. WakeRow-log l (λ t m c e same. grind (arith, same)) (λ m same. absurd (grind (arith, q, same))) (wake-row p u)))

-- the last runs

pub LastRuns-log : {before after : History} {s n : ℕ} {e : Entry} {on_cpu : ℕ → Bool} {runs cpu : ℕ → ℕ} → Logged before after s n e → LastRuns before on_cpu runs cpu → LastRuns after on_cpu runs cpu
LastRuns-log l p = run-rows (λ u. RunRow-log l (run-row p u))

pub LastRuns-run : {before after : History} {s n : ℕ} {e : Entry} {on_cpu : ℕ → Bool} {runs cpu : ℕ → ℕ} (t : ℕ) (busy : Bool) (m : ℕ) → Logged before after s n e → RunRow after t busy m (cpu t)
    → LastRuns before on_cpu runs cpu → LastRuns after (put on_cpu t busy) (put runs t m) cpu
LastRuns-run {after = after} {on_cpu = on_cpu} {runs} {cpu} t busy m l here p =
    run-rows (rows t (λ u b. RunRow after u (if b then busy else on_cpu u) (if b then m else runs u) (cpu u)) here (λ u q. RunRow-log l (run-row p u)))

pub LastRuns-cpu : {j : History} {on_cpu : ℕ → Bool} {runs cpu : ℕ → ℕ} (t c : ℕ) → on_cpu t ≡ false → LastRuns j on_cpu runs cpu → LastRuns j on_cpu runs (put cpu t c)
LastRuns-cpu {j} {on_cpu} {runs} {cpu} t c idle p =
    run-rows (rows t (λ u b. RunRow j u (on_cpu u) (runs u) (if b then c else cpu u)) (RunRow-cpu c idle (run-row p t)) (λ u q. run-row p u))
