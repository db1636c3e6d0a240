use Rattle.std.proofs.Common.{◌<◌, subst, sym}
use Rattle.std.specs.Prelude.{IfSome}
use Rattle.handoff_data.specs.declared.shape.Shape.{Shape}
use Rattle.task_words.proofs.Allowed.{popped_task, popped_ready}
use Rattle.task_words.specs.Gives.{IsJustTaken}
use Rattle.task_words.proofs.guards.QueueGuard.pop.Goals as goal

pub returns-clause-task : goal.returns-clause-task
returns-clause-task g c = let a = c.args in
    subst (λ (shape : Shape). IfSome c.pop.result (λ t. t < shape.tasks)) c.requires.of.same_shape
    (popped_task a.pass.now.shape a.pass.now.seat a.pass.now.trace a.self.now.cpu c.val_mut.result.now c.pop.new.self c.pop.result
    (subst (IsJustTaken a.pass.now.shape a.pass.now.seat a.pass.now.trace a.self.now.cpu) (sym c.val_mut.ensures.value) c.requires.taken) c.pop.ensures)

pub returns-clause-ready : goal.returns-clause-ready
returns-clause-ready g c = let a = c.args in
    popped_ready a.pass.now.shape a.pass.now.seat a.pass.now.trace a.self.now.cpu c.val_mut.result.now c.pop.new.self c.pop.result
    (subst (IsJustTaken a.pass.now.shape a.pass.now.seat a.pass.now.trace a.self.now.cpu) (sym c.val_mut.ensures.value) c.requires.taken) c.pop.ensures
