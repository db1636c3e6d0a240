use Rattle.std.proofs.Common.{subst, sym}
use Rattle.task_words.proofs.Allowed.{here_may}
use Rattle.task_words.proofs.runs.queue_task.Goals as goal
use Rattle.task_words.specs.Views.{PassView}
use Rattle.word_rule.specs.May.{MayQueueWord, queued_next}

pub queue_read-requires-clause-may : goal.queue_read-requires-clause-may
queue_read-requires-clause-may g c κs within x room = let a = c.args in
    subst (λ (p : PassView). MayQueueWord p.seat p.trace a.t x (queued_next a.seen.m)) (sym c.pass.view_is)
    (here_may a.pass.now.seat a.pass.now.trace a.queue.now.cpu a.t a.seen.m x c.requires.may c.requires.seen room)
