-- No state is two of those that steps tell apart; and what the invariant says of the state of a task off its queue.
use Rattle.std.proofs.Common.{◌≡◌, ◌≢◌, ℕ, inl, inr, None, ap, arith}
use Rattle.std.specs.Prelude.{true}
use Rattle.std.proofs.lemmas.Bool.{cases_eq}
use Rattle.std.proofs.lemmas.Bool.Decides.{nat_tests}
use Rattle.core_data.specs.Columns.{Columns}
use Rattle.core_invariant.specs.Invariant.{Holds}
use Rattle.core_kinds.specs.Steps.{waking, dead, is_sleep, IsRunnable}
use Rattle.handoff_data.specs.declared.state.State.{State}

pub waking-runnable : (x : State) → x ≡ waking → IsRunnable x → ⊥
waking-runnable x h r = let q = ap (λ (y : State). y.0) h in grind (arith, q, r)

pub waking-sleep : (x : State) → x ≡ waking → is_sleep x ≡ true → ⊥
waking-sleep x h r = let q = ap (λ (y : State). y.0) h in grind (arith, nat_tests, q, r)

pub waking-dead : (x : State) → x ≡ waking → x ≡ dead → ⊥
waking-dead x h r = let q = ap (λ (y : State). y.0) h in let p = ap (λ (y : State). y.0) r in omega (arith, q, p)

pub sleep-dead : (x : State) → is_sleep x ≡ true → x ≡ dead → ⊥
sleep-dead x r h = let q = ap (λ (y : State). y.0) h in grind (arith, nat_tests, q, r)

-- a task that no seat has locked isn't on its way to a queue
pub unlocked-still : (core : Columns) (t : ℕ) → Holds core → core.lock t ≡ None → core.on_rq t ≡ 0 → core.state t ≢ waking
unlocked-still core t holds free off w = elim (cases_eq (core.changes t) 0) [
  | inl z ↦ waking-runnable (core.state t) w (holds.places.new_states.runnable t z)
  | inr m ↦ elim (holds.places.off t m off) [
    | inl a ↦ waking-sleep (core.state t) w a
    | inr b ↦ elim b [ inl a ↦ waking-dead (core.state t) w a | inr a ↦ let r = a.1.1 in grind (arith, free, r) ]
  ]
]

-- nor is one at 2, which its mover has locked
pub unlocked-settled : (core : Columns) (t : ℕ) → Holds core → core.lock t ≡ None → core.on_rq t ≢ 2
unlocked-settled core t holds free h = let r = (holds.places.moving.locked t h).1 in grind (arith, free, r)
