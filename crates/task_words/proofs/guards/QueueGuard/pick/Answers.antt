use Rattle.task_words.proofs.Allowed.{ready_may}
use Rattle.task_words.proofs.guards.QueueGuard.pick.Goals as goal

pub set_busy-requires-clause-may : goal.set_busy-requires-clause-may
set_busy-requires-clause-may g c κs within x room = let a = c.args in
    ready_may a.pass.now.seat a.pass.now.trace a.t x c.requires.held c.requires.ready c.requires.idle c.requires.clear room
