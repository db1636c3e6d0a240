use Rattle.std.proofs.Common.{◌≡◌, ◌<◌, length, arith, subst, sym}
use Rattle.core_data.specs.Queue.{Queue, times_in}
use Rattle.handoff_data.specs.declared.shape.Shape.{Shape}
use Rattle.task_words.proofs.Allowed.{absent_of, room_of}
use Rattle.task_words.proofs.guards.QueueGuard.push.Goals as goal

pub push-requires-clause-absent : goal.push-requires-clause-absent
push-requires-clause-absent g c = let a = c.args in
    subst (λ (q : Queue). times_in q.waiting a.t ≡ 0) (sym c.val_mut.ensures.value)
    (absent_of a.pass.now.shape a.pass.now.seat a.pass.now.trace a.self.now.cpu a.t a.self.now.val c.requires.room)

pub push-requires-clause-room : goal.push-requires-clause-room
push-requires-clause-room g c = let a = c.args in
    let task = subst (λ (s : Shape). a.t < s.tasks) (sym c.requires.of.same_shape) c.requires.task in
    let room = room_of a.pass.now.shape a.pass.now.seat a.pass.now.trace a.self.now.cpu a.t a.self.now.val task c.requires.room in
    let within = subst (λ (z : Queue × Shape). length z.0.waiting < z.1.tasks) (λ j. (sym c.val_mut.ensures.value j, c.requires.of.same_shape j)) room in
    omega (arith, within, c.few_tasks.ensures)
