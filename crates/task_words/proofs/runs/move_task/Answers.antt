use Rattle.std.proofs.Common.{subst, sym}
use Rattle.task_words.proofs.Allowed.{move_may}
use Rattle.task_words.proofs.runs.move_task.Goals as goal
use Rattle.task_words.specs.Views.{PassView}
use Rattle.word_rule.specs.May.{MayMoveWord, next_rq}

pub change_rq-m-requires-clause-may : goal.change_rq-m-requires-clause-may
change_rq-m-requires-clause-may g c κs within x room = let a = c.args in
    subst (λ (p : PassView). MayMoveWord p.seat p.trace a.t x (next_rq x 2)) (sym c.pass.view_is)
    (move_may a.pass.now.seat a.pass.now.trace a.queue.now.cpu a.t x c.requires.may room)
