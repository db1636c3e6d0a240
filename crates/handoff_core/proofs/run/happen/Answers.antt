use Rattle.std.proofs.Common.{◌≡◌, sym, subst}
use Rattle.std.specs.Prelude.{OnOk}
use Rattle.core_data.specs.Columns.{columns}
use Rattle.core_law.specs.Steps.{after}
use Rattle.core_law.specs.declared.step.StepKind.{StepKind}
use Rattle.handoff_core.proofs.run.happen.Goals as goal

pub returns-in-TakeTask : goal.returns-in-TakeTask
returns-in-TakeTask c =
    subst (λ (step : StepKind). OnOk c.take_task.result (columns c.take_task.new.core ≡ after (columns c.args.core.now) c.args.event.now.seat step)) (sym c.in-TakeTask.is) c.take_task.ensures

pub returns-in-QueueTask : goal.returns-in-QueueTask
returns-in-QueueTask c =
    subst (λ (step : StepKind). OnOk c.queue_task.result (columns c.queue_task.new.core ≡ after (columns c.args.core.now) c.args.event.now.seat step)) (sym c.in-QueueTask.is) c.queue_task.ensures

pub returns-in-DequeueTask : goal.returns-in-DequeueTask
returns-in-DequeueTask c =
    subst (λ (step : StepKind). OnOk c.dequeue_task.result (columns c.dequeue_task.new.core ≡ after (columns c.args.core.now) c.args.event.now.seat step))
    (sym c.in-DequeueTask.is) c.dequeue_task.ensures

pub returns-in-MoveTask : goal.returns-in-MoveTask
returns-in-MoveTask c =
    subst (λ (step : StepKind). OnOk c.move_task.result (columns c.move_task.new.core ≡ after (columns c.args.core.now) c.args.event.now.seat step)) (sym c.in-MoveTask.is) c.move_task.ensures

pub returns-in-SetBusy : goal.returns-in-SetBusy
returns-in-SetBusy c =
    subst (λ (step : StepKind). OnOk c.set_busy.result (columns c.set_busy.new.core ≡ after (columns c.args.core.now) c.args.event.now.seat step)) (sym c.in-SetBusy.is) c.set_busy.ensures

pub returns-in-ClearBusy : goal.returns-in-ClearBusy
returns-in-ClearBusy c =
    subst (λ (step : StepKind). OnOk c.clear_busy.result (columns c.clear_busy.new.core ≡ after (columns c.args.core.now) c.args.event.now.seat step)) (sym c.in-ClearBusy.is) c.clear_busy.ensures

pub returns-in-SetState : goal.returns-in-SetState
returns-in-SetState c =
    subst (λ (step : StepKind). OnOk c.set_state.result (columns c.set_state.new.core ≡ after (columns c.args.core.now) c.args.event.now.seat step)) (sym c.in-SetState.is) c.set_state.ensures

pub returns-in-ClaimTask : goal.returns-in-ClaimTask
returns-in-ClaimTask c =
    subst (λ (step : StepKind). OnOk c.claim.result (columns c.claim.new.core ≡ after (columns c.args.core.now) c.args.event.now.seat step)) (sym c.in-ClaimTask.is) c.claim.ensures

pub returns-in-MakeRunnable : goal.returns-in-MakeRunnable
returns-in-MakeRunnable c =
    subst (λ (step : StepKind). OnOk c.make_runnable.result (columns c.make_runnable.new.core ≡ after (columns c.args.core.now) c.args.event.now.seat step))
    (sym c.in-MakeRunnable.is) c.make_runnable.ensures

pub returns-in-StoreCpu : goal.returns-in-StoreCpu
returns-in-StoreCpu c =
    subst (λ (step : StepKind). OnOk c.store_cpu.result (columns c.store_cpu.new.core ≡ after (columns c.args.core.now) c.args.event.now.seat step)) (sym c.in-StoreCpu.is) c.store_cpu.ensures
