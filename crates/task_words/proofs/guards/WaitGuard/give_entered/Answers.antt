use Rattle.std.proofs.Common.{subst}
use Rattle.handoff_data.specs.declared.shape.Shape.{Shape}
use Rattle.task_words.proofs.Entered.{entered_gives}
use Rattle.task_words.proofs.guards.WaitGuard.give_entered.Goals as goal
use Rattle.word_rule.specs.May.{MayGiveWaitVal}

pub give-requires-clause-may : goal.give-requires-clause-may
give-requires-clause-may g c κs within = let a = c.args in
    subst (λ (shape : Shape). MayGiveWaitVal a.pass.now.seat a.pass.now.trace shape a.self.cond a.self.val) c.requires.of.same_shape
    (entered_gives a.pass.now.shape a.pass.now.seat a.pass.now.trace a.self.cond a.self.val c.requires.may)
