use Rattle.std.proofs.Common.{subst}
use Rattle.handoff_data.specs.declared.shape.Shape.{Shape}
use Rattle.task_words.proofs.Allowed.{queued_under_gives}
use Rattle.task_words.proofs.guards.TaskGuard.give_queued.Goals as goal
use Rattle.word_rule.specs.May.{MayGiveTaskVal}

pub give-requires-clause-may : goal.give-requires-clause-may
give-requires-clause-may g c κs within = let a = c.args in
    subst (λ (shape : Shape). MayGiveTaskVal a.pass.now.seat a.pass.now.trace shape a.self.task a.self.val) c.requires.of.same_shape
    (queued_under_gives a.pass.now.shape a.pass.now.seat a.pass.now.trace a.self.task a.self.val c.requires.may)
