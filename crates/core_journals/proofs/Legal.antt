-- Once every task is dead and no seat has a task, the journals are one legal history.
use Rattle.std.proofs.Common.{◌≡◌, ◌≢◌, ℕ, ◌<◌, inl, inr, Some, None, refl, subst, ap, arith}
use Rattle.std.specs.Prelude.{false}
use Rattle.std.proofs.lemmas.Bool.{cases_Bool}
use Rattle.core_data.specs.Columns.{Columns}
use Rattle.core_invariant.proofs.Logs.{history-tasks}
use Rattle.core_invariant.specs.Invariant.{Holds}
use Rattle.core_journals.proofs.Lawful.{HasNoBad-journals}
use Rattle.core_journals.proofs.Running.{past}
use Rattle.core_journals.proofs.States.{waking-dead}
use Rattle.core_kinds.specs.Steps.{dead, IsRunnable}
use Rattle.handoff_data.specs.Legal.{HasEnded, IsLegal}
use Rattle.handoff_data.specs.Rules.{IsRunning}
use Rattle.handoff_data.specs.declared.entry.Entry.TheVariants as entry
use Rattle.handoff_data.specs.declared.state.State.{State}

dead-runnable : (x : State) → x ≡ dead → IsRunnable x → ⊥
dead-runnable x h r = let q = ap (λ (y : State). y.0) h in grind (arith, q, r)

-- a dead task that isn't busy is off its queue
dead-off : (core : Columns) (t : ℕ) → Holds core → core.state t ≡ dead → core.on_cpu t ≡ false → core.on_rq t ≡ 0
dead-off core t holds d idle =
    let none : ((s : ℕ) → core.current_task s ≢ Some t) = λ s q. let r = holds.busy.runner.current_busy s t q in grind (arith, idle, r) in
    let few = holds.places.on_rq t in
    let unqueued : core.on_rq t ≢ 1 = λ one. elim (holds.places.waiting t one none) [ inl a ↦ dead-runnable (core.state t) d a | inr b ↦ waking-dead (core.state t) b.0 d ] in
    let unmoved : core.on_rq t ≢ 2 = λ two. dead-runnable (core.state t) d (holds.places.moving.runnable t two) in
    omega (arith, few, unqueued, unmoved)

-- such a task has ended
pub HasEnded-dead : (core : Columns) (t : ℕ) → Holds core → core.state t ≡ dead → core.on_cpu t ≡ false → HasEnded (past core) t
HasEnded-dead core t holds d idle =
    let p = holds.journals in
    let some : core.changes t ≢ 0 = λ z. dead-runnable (core.state t) d (holds.places.new_states.runnable t z) in
    let die = p.last_changes.ended t some (dead-off core t holds d idle) d in
    let ran : IsRunning (past core) die.1.0 die.1.1.0 t = p.rules.leaves_while_running die.1.0 die.1.1.0 (entry.Die t (core.changes t) die.0) die.1.1.1 in
    let odd = (p.rules.runs_alternate die.1.0 ran.0 (entry.Pick t ran.1 ran.2) ran.4).0 in
    let below = p.numbered.run die.1.0 ran.0 (entry.Pick t ran.1 ran.2) t ran.1 ran.4 refl in
    let runs : core.runs t ≢ 0 = λ z. omega (arith, z, below, odd) in
    let finish = p.last_runs.idle t idle runs in
    record {
      dies = (core.changes t, die.0, die.1, λ e m h is. p.numbered.change h.0 h.1.0 e t m h.1.1 is);
      finishes = (core.runs t, finish.0, finish.1, λ e n h is. p.numbered.run h.0 h.1.0 e t n h.1.1 is);
    }

-- no seat has a task, so none is busy
closed-idle : (core : Columns) (t : ℕ) → Holds core → ((s : ℕ) → core.current_task s ≡ None) → ((s : ℕ) → core.task_to_clear s ≡ None) → core.on_cpu t ≡ false
closed-idle core t holds none clear = elim (cases_Bool (core.on_cpu t)) [
  | inr idle ↦ idle
  | inl busy ↦ elim (holds.busy.runner.busy_is t busy) [
    | inl a ↦ absurd (let r = none (core.cpu t) in grind (arith, r, a))
    | inr a ↦ absurd (let r = clear (core.cpu t) in grind (arith, r, a))
  ]
]

pub IsLegal-closed : (core : Columns) → Holds core → ((s : ℕ) → core.current_task s ≡ None) → ((s : ℕ) → core.task_to_clear s ≡ None) → ((t : ℕ) → t < core.tasks → core.state t ≡ dead)
    → IsLegal (past core)
IsLegal-closed core holds none clear all =
    record {
      no_bad = HasNoBad-journals core holds.journals;
      ended = λ t h. HasEnded-dead core t holds (all t (subst (λ z. t < z) (history-tasks core.cpus core.tasks core.seats core.journal) h)) (closed-idle core t holds none clear);
    }
