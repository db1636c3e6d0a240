use Rattle.std.proofs.Common.{drop, map}
use Rattle.std.specs.Vec.Iter.{into_iter_items}
use Rattle.pipe_bodies.specs.Nets.{begun_tasks, lasting_of}
use Rattle.pipe_bodies.proofs.SettleLaws.{Settling}
use Rattle.pipe_bodies.proofs.settling.settle.Given as goal

abbrev pub invariant-loop-task : goal.invariant-loop-task
invariant-loop-task g l = Settling (begun_tasks l.tasks (map lasting_of l.fn.bodies.items)) (begun_tasks (drop l.task-index l.tasks) (map lasting_of (into_iter_items l.bodies))) l.fn.bodies.items
    (into_iter_items l.bodies) l.outputs.items l.kept.items
