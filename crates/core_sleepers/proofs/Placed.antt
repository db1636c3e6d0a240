-- The state of a task is one of seven.
use Rattle.std.proofs.Common.{◌≡◌, ◌≢◌, ℕ, ◌≤◌, ◌⊎◌, inl, inr, true, false, Option, Some, None, ap, ◌∙◌, arith}
use Rattle.std.proofs.lemmas.Bool.{cases_eq}
use Rattle.std.proofs.lemmas.Bool.Decides.{nat_tests}
use mathlib.Core.Bool.{not}
use Rattle.core_data.specs.Columns.{Columns}
use Rattle.core_invariant.specs.Invariant.{Holds}
use Rattle.core_invariant.specs.Sleepers.{IsAwake}
use Rattle.core_kinds.specs.Steps.{running, waking, dead, fresh, normal, is_sleep, is_match, IsRunnable}
use Rattle.handoff_data.specs.declared.state.State.{State}

-- a state is its number
numbered : (x : State) (n : ℕ) → x.0 ≡ n → x ≡ record { 0 = n }
numbered x n e = ap (λ (m : ℕ). record { 0 = m }) e

pub runnable-is : (x : State) → IsRunnable x → (x ≡ running) ⊎ (x ≡ fresh)
runnable-is x h = elim h [ inl e ↦ inl (numbered x 0 e) | inr e ↦ inr (numbered x 0x800 e) ]

sleep-is : (x : State) → is_sleep x ≡ true → (x.0 ≡ 1) ⊎ (x.0 ≡ 2)
sleep-is x h = grind (arith, nat_tests, h)

-- it may run, sleeps, is dead or waking
abbrev pub IsKnown : State → Type 0
IsKnown x = IsRunnable x ⊎ ((is_sleep x ≡ true) ⊎ ((x ≡ dead) ⊎ (x ≡ waking)))

is_or_not : (o : Option ℕ) (t : ℕ) → (o ≡ Some t) ⊎ (o ≢ Some t)
is_or_not None t = inr (λ e. cc)
is_or_not (Some j) t = elim (cases_eq j t) [ inl e ↦ inl (ap Some e) | inr e ↦ inr (λ f. grind (arith, e, f)) ]

three : (n : ℕ) → n ≤ 2 → (n ≡ 0) ⊎ ((n ≡ 1) ⊎ (n ≡ 2))
three n h = elim (cases_eq n 0) [ inl a ↦ inl a | inr a ↦ elim (cases_eq n 1) [ inl b ↦ inr (inl b) | inr b ↦ inr (inr (omega (arith, a, b, h))) ] ]

queued_known : (core : Columns) (t : ℕ) → Holds core → core.on_rq t ≡ 1 → IsKnown (core.state t)
queued_known core t holds on =
    elim (is_or_not (core.current_task (core.cpu t)) t) [
      | inl is ↦ elim (holds.places.current (core.cpu t) t is on) [ inl r ↦ inl r | inr (inl z) ↦ inr (inl z) | inr (inr d) ↦ inr (inr (inl d)) ]
      | inr other ↦ elim (holds.places.waiting t on (λ s e. other (ap core.current_task (holds.busy.runner.current_here s t e) ∙ e))) [ inl r ↦ inl r | inr w ↦ inr (inr (inr w.0)) ]
    ]

pub known : (core : Columns) (t : ℕ) → Holds core → IsKnown (core.state t)
known core t holds =
    elim (cases_eq (core.changes t) 0) [
      | inl new ↦ inl (holds.places.new_states.runnable t new)
      | inr old ↦ elim (three (core.on_rq t) (holds.places.on_rq t)) [
        | inl off ↦ elim (holds.places.off t old off) [ inl z ↦ inr (inl z) | inr (inl d) ↦ inr (inr (inl d)) | inr (inr w) ↦ inr (inr (inr w.0)) ]
        | inr (inl on) ↦ queued_known core t holds on
        | inr (inr moving) ↦ inl (holds.places.moving.runnable t moving)
      ]
    ]

sleep-matches : (x : State) → is_sleep x ≡ true → is_match x normal ≡ true
sleep-matches x h = elim (sleep-is x h) [ inl e ↦ ap (λ n. is_match (record { 0 = n }) normal) e | inr e ↦ ap (λ n. is_match (record { 0 = n }) normal) e ]

-- one that TASK_NORMAL doesn't match is awake, or never ran
pub unmatched : (core : Columns) (t : ℕ) → Holds core → not (is_match (core.state t) normal) ≡ true → IsAwake (core.state t) ⊎ (core.state t ≡ fresh)
unmatched core t holds h =
    elim (known core t holds) [
      | inl r ↦ elim (runnable-is (core.state t) r) [ inl e ↦ inl (inl e) | inr e ↦ inr e ]
      | inr (inl z) ↦ (let m = sleep-matches (core.state t) z in absurd (grind (arith, m, h)))
      | inr (inr (inl d)) ↦ inl (inr (inr d))
      | inr (inr (inr w)) ↦ inl (inr (inl w))
    ]

-- a task that is awake or never ran is safe whatever is owed
pub safe_at : (core : Columns) (t : ℕ) → Holds core → IsAwake (core.state t) ⊎ (core.state t ≡ fresh) → (s k : ℕ) → IsAwake (core.state t) ⊎ (core.tested s t k ≡ None)
safe_at core t holds h s k = elim h [ inl a ↦ inl a | inr e ↦ inr (holds.sleepers.fresh_test s t k e) ]

pub asleep_not : (x : State) → IsAwake x ⊎ (x ≡ fresh) → is_sleep x ≡ false
asleep_not x h = elim h [ inl (inl e) ↦ ap (λ y. is_sleep y) e | inl (inr (inl e)) ↦ ap (λ y. is_sleep y) e | inl (inr (inr e)) ↦ ap (λ y. is_sleep y) e | inr e ↦ ap (λ y. is_sleep y) e ]
