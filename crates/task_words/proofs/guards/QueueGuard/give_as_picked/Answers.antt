use Rattle.std.proofs.Common.{subst, sym, ℕ}
use Rattle.handoff_data.specs.declared.shape.Shape.{Shape}
use Rattle.task_words.proofs.Allowed.{picked_cur_gives}
use Rattle.task_words.proofs.guards.QueueGuard.give_as_picked.Goals as goal
use Rattle.word_rule.specs.May.{MayGiveQueueVal}

pub give-requires-clause-may : goal.give-requires-clause-may
give-requires-clause-may g c κs within = let a = c.args in
    subst (λ (shape : Shape). MayGiveQueueVal a.pass.now.seat a.pass.now.trace shape a.self.cpu a.self.val) c.requires.of.same_shape
    (subst (λ (n : ℕ). MayGiveQueueVal a.pass.now.seat a.pass.now.trace a.pass.now.shape n a.self.val) (sym c.requires.own)
    (picked_cur_gives a.pass.now.shape a.pass.now.seat a.pass.now.trace a.self.val c.requires.may))
