-- What the invariant says of the task that a step is about.
use Rattle.std.proofs.Common.{◌≡◌, ◌≢◌, ℕ, ◌⊎◌, inl, inr, true, false, Option, Some, None, refl, sym, ap, ◌∙◌, subst, arith}
use Rattle.std.proofs.lemmas.Bool.Decides.{nat_tests}
use Rattle.core_data.specs.Columns.{Columns}
use Rattle.core_invariant.specs.Invariant.{Holds}
use Rattle.core_kinds.specs.Running.{MayDequeue, MayLeave, IsReady}
use Rattle.core_kinds.specs.Steps.{waking, dead, is_sleep, IsRunnable}
use Rattle.core_kinds.specs.Waking.{MayClaim, MayStoreCpu}
use Rattle.handoff_data.specs.declared.state.State.{State}

-- a task that isn't busy is no seat's current task
pub idle_apart : (core : Columns) (t : ℕ) → Holds core → core.on_cpu t ≡ false → (s : ℕ) → core.current_task s ≢ Some t
idle_apart core t holds idle s c = grind (arith, idle, holds.busy.runner.current_busy s t c)

-- a task off its queue that waits to be queued was claimed by the seat that has its lock
pub claimed_by : (core : Columns) (s t : ℕ) → Holds core → core.lock t ≡ Some s → core.on_rq t ≡ 0 → core.state t ≡ waking → core.is_claimed s t ≡ true
claimed_by core s t holds locked off awaits =
    elim (holds.places.off t started off) [
      | inl a ↦ absurd (grind (arith, nat_tests, awaits, a))
      | inr b ↦ elim b [
        | inl a ↦ absurd (grind (arith, awaits, a))
        | inr w ↦ let same : w.1.0 ≡ s = cc in subst (λ k. core.is_claimed k t ≡ true) same w.1.2
      ]
    ]
  where
    started : core.changes t ≢ 0
    started h = grind (arith, nat_tests, holds.places.new_states.runnable t h, awaits)

-- a task that is ready to be queued isn't busy
pub ready_idle : (core : Columns) (s t : ℕ) → Holds core → core.lock t ≡ Some s → IsReady core s t → core.on_cpu t ≡ false
ready_idle core s t holds locked (inl new) = holds.places.new.idle t new
ready_idle core s t holds locked (inr (inl w)) = holds.positions.claimed.idle s t (claimed_by core s t holds locked w.0 w.1) w.2
ready_idle core s t holds locked (inr (inr moving)) = holds.places.moving.idle t moving

pub ready_state : (core : Columns) (s t : ℕ) → Holds core → IsReady core s t → IsRunnable (core.state t) ⊎ (core.state t ≡ waking)
ready_state core s t holds (inl new) = inl (holds.places.new_states.runnable t new)
ready_state core s t holds (inr (inl w)) = inr w.1
ready_state core s t holds (inr (inr moving)) = inl (holds.places.moving.runnable t moving)

-- .. nor dead
pub ready_alive : (core : Columns) (s t : ℕ) → Holds core → IsReady core s t → core.state t ≢ dead
ready_alive core s t holds ready d = elim (ready_state core s t holds ready) [ inl a ↦ grind (arith, nat_tests, a, d) | inr a ↦ grind (arith, a, d) ]

-- a task that leaves its queue sleeps or is dead
pub leaves : (core : Columns) (s c t : ℕ) → Holds core → MayDequeue core s c t → (is_sleep (core.state t) ≡ true) ⊎ (core.state t ≡ dead)
leaves core s c t holds may = by (core.seen_state s) refl may.seen
  where
    by : (o : Option State) → core.seen_state s ≡ o → MayLeave o (core.count t) → (is_sleep (core.state t) ≡ true) ⊎ (core.state t ≡ dead)
    by None q h = absurd h
    by (Some x) q (inl a) = inl (ap is_sleep (holds.positions.seen.is s t x may.current may.queued q) ∙ a)
    by (Some x) q (inr a) = inr (holds.positions.seen.is s t x may.current may.queued q ∙ a.0)

-- a queued task was queued before
pub queued_started : (core : Columns) (t : ℕ) → Holds core → core.on_rq t ≢ 0 → core.changes t ≢ 0
queued_started core t holds queued h = queued (holds.places.new.off t h)

-- a task that is claimed is off its queue
pub claim_off : (core : Columns) (s t : ℕ) → Holds core → MayClaim core s t → core.on_rq t ≡ 0
claim_off core s t holds may = holds.positions.matched.off s t may.locked may.saw_off

pub claim_started : (core : Columns) (s t : ℕ) → Holds core → MayClaim core s t → core.changes t ≢ 0
claim_started core s t holds may = holds.positions.matched.started s t may.locked (holds.positions.matched.saw_after s t may.saw_off)

-- one that is moved isn't busy
pub move_idle : (core : Columns) (s c t : ℕ) → Holds core → core.queue_lock c ≡ Some s → core.saw_idle s c t ≡ true → core.on_rq t ≡ 1 → core.cpu t ≡ c → core.current_task s ≢ Some t
    → core.on_cpu t ≡ false
move_idle core s c t holds locked idle queued here other =
    elim (holds.positions.idle.read s c t locked idle queued here) [ inl a ↦ a | inr a ↦ absurd (other a) ]

-- a task whose lock is free isn't on its way to a queue
pub free_rests : (core : Columns) (t : ℕ) → Holds core → core.lock t ≡ None → core.on_rq t ≡ 0 → core.state t ≢ waking
free_rests core t holds free off awaits =
    elim (holds.places.off t started off) [
      | inl a ↦ grind (arith, nat_tests, awaits, a)
      | inr b ↦ elim b [ inl a ↦ grind (arith, awaits, a) | inr w ↦ grind (arith, w.1.1, free) ]
    ]
  where
    started : core.changes t ≢ 0
    started h = grind (arith, nat_tests, holds.places.new_states.runnable t h, awaits)

pub free_settled : (core : Columns) (t : ℕ) → Holds core → core.lock t ≡ None → core.on_rq t ≢ 2
free_settled core t holds free moving = let l = holds.places.moving.locked t moving in grind (arith, l.1, free)

-- a new task isn't on its way to a queue
pub new_rests : (core : Columns) (t : ℕ) → Holds core → core.changes t ≡ 0 → core.state t ≢ waking
new_rests core t holds new awaits = grind (arith, nat_tests, holds.places.new_states.runnable t new, awaits)

-- a task is current of the seat of its processor alone
pub one_seat : (core : Columns) (s t : ℕ) → Holds core → core.current_task s ≡ Some t → (k : ℕ) → core.current_task k ≡ Some t → k ≡ s
one_seat core s t holds own k h = sym (holds.busy.runner.current_here k t h) ∙ holds.busy.runner.current_here s t own

-- a task that leaves its queue isn't on its way to another
pub leaves_rests : (core : Columns) (s c t : ℕ) → Holds core → MayDequeue core s c t → core.state t ≢ waking
leaves_rests core s c t holds may awaits = elim (leaves core s c t holds may) [ inl a ↦ grind (arith, nat_tests, a, awaits) | inr a ↦ grind (arith, a, awaits) ]

-- a task whose processor word may be stored isn't queued
pub placeable_off : (core : Columns) (s t c : ℕ) → Holds core → MayStoreCpu core s t c → core.on_rq t ≢ 1
placeable_off core s t c holds may =
    elim may.placeable [
      | inl a ↦ λ h. let z = holds.places.new.off t a in omega arith
      | inr b ↦ elim b [ inl a ↦ λ h. let z = a.0 in omega arith | inr a ↦ λ h. omega arith ]
    ]
