use Rattle.task_words.proofs.Allowed.{cur_may}
use Rattle.task_words.proofs.guards.QueueGuard.pick_cur.Goals as goal

pub set_busy-requires-clause-may : goal.set_busy-requires-clause-may
set_busy-requires-clause-may g c κs within x room = let a = c.args in
    cur_may a.pass.now.shape a.pass.now.seat a.pass.now.trace a.self.now.val a.t x c.requires.taken c.requires.next c.requires.idle c.requires.clear room
