use Rattle.std.proofs.Common.{◌≡◌, drop, All, length, map}
use Rattle.std.specs.Vec.Iter.{into_iter_items}
use Rattle.pipe_bodies.specs.Courses.{plan_in}
use Rattle.pipe_bodies.specs.Nets.{IsBegun, with_plans}
use Rattle.pipe_bodies.proofs.BuildLoop.{Building}
use Rattle.pipe_bodies.proofs.building.build_courses.Given as goal

abbrev pub invariant-loop-task : goal.invariant-loop-task
invariant-loop-task g l = record {
  building : Building (with_plans l.tasks (map plan_in l.fn.courses.items)) (with_plans (drop l.task-index l.tasks) (map plan_in (into_iter_items l.courses))) l.bodies.items l.task-index;
  number : l.number ≡ l.task-index;
  begun : All (IsBegun l.fn.room) l.bodies.items;
  left : length (into_iter_items l.courses) ≡ length (drop l.task-index l.tasks);
}
