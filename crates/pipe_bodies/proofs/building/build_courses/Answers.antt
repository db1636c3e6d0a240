use Rattle.std.proofs.Common.{◌+◌, arith, refl, ap, sym, ◌∙◌, drop, map}
use Rattle.std.specs.Vec.Iter.{into_iter_items}
use Rattle.std.proofs.lemmas.List.Elements.{All-nil}
use Rattle.pipe_bodies.specs.Courses.{plan_in}
use Rattle.pipe_bodies.specs.Nets.{IsBegun, with_plans}
use Rattle.pipe_bodies.proofs.BuildLaws.{all-rooms, all-fresh}
use Rattle.pipe_bodies.proofs.BuildLoop.{building-starts, building-none, building-rest, building-sides, building-reads, building-step, building-end, building-number, none_left}
use Rattle.pipe_bodies.proofs.ForestScripts.{forest_joined}
use Rattle.pipe_bodies.proofs.building.build_courses.Goals as goal

pub loop-task-init : goal.loop-task-init
loop-task-init g c = record {
  building = rw (c.into_iter-courses.ensures.rest, c.new-bodies.ensures.items) (building-starts (with_plans c.args.tasks.now (map plan_in c.args.courses.items)) (forest_joined (with_plans
      c.args.tasks.now (map plan_in c.args.courses.items)) c.requires.forest));
  number = refl;
  begun = rw c.new-bodies.ensures.items (All-nil (IsBegun c.args.room));
  left = rw c.into_iter-courses.ensures.rest c.requires.courses;
}

pub unreachable-requires : goal.unreachable-requires
unreachable-requires g c = building-none c.args.tasks.now c.loop-task.task-index c.task-item.result (into_iter_items c.loop-task.courses) c.loop-task-test.true c.task-item.is
    c.loop-task.invariant.left
    (omega (arith, c.in_default.ensures.cases, c.loop-task.courses.rest.ok))

pub build_one-requires-clause-sides : goal.build_one-requires-clause-sides
build_one-requires-clause-sides g c κs within = building-sides c.args.tasks.now c.loop-task.task-index c.task-item.result (into_iter_items c.loop-task.courses) c.loop-task-test.true c.task-item.is
    c.loop-task.invariant.left
    c.in-Some.course (into_iter_items c.next.new.self) c.in-Some.ensures.items (with_plans c.args.tasks.now (map plan_in c.args.courses.items)) c.loop-task.bodies.items c.loop-task.invariant.building

pub build_one-requires-clause-number : goal.build_one-requires-clause-number
build_one-requires-clause-number g c κs within = c.loop-task.invariant.number
    ∙ sym (building-number (with_plans c.args.tasks.now (map plan_in c.args.courses.items)) (with_plans (drop c.loop-task.task-index c.args.tasks.now) (map plan_in (into_iter_items
    c.loop-task.courses)))
    c.loop-task.bodies.items c.loop-task.task-index c.loop-task.invariant.building)

pub build_one-requires-clause-built : goal.build_one-requires-clause-built
build_one-requires-clause-built g c κs within = building-reads c.args.tasks.now c.loop-task.task-index c.task-item.result (into_iter_items c.loop-task.courses) c.loop-task-test.true c.task-item.is
    c.loop-task.invariant.left
    c.in-Some.course (into_iter_items c.next.new.self) c.in-Some.ensures.items (with_plans c.args.tasks.now (map plan_in c.args.courses.items)) c.loop-task.bodies.items c.loop-task.invariant.building

pub loop-task-preserved : goal.loop-task-preserved
loop-task-preserved g c = record {
  building = building-step c.args.tasks.now c.loop-task.task-index c.task-item.result (into_iter_items c.loop-task.courses) c.loop-task-test.true c.task-item.is c.loop-task.invariant.left
      c.in-Some.course (into_iter_items c.next.new.self) c.in-Some.ensures.items (with_plans c.args.tasks.now (map plan_in c.args.courses.items)) c.loop-task.bodies.items
      c.loop-task.invariant.building
      c.build_one.new.bodies.items c.in_ok-build_one.ensures.count c.in_ok-build_one.ensures.built;
  number = ap (λ z. z + 1) c.loop-task.invariant.number;
  begun = c.in_ok-build_one.ensures.begun;
  left = building-rest c.args.tasks.now c.loop-task.task-index c.task-item.result (into_iter_items c.loop-task.courses) c.loop-task-test.true c.task-item.is c.loop-task.invariant.left
      c.in-Some.course (into_iter_items c.next.new.self) c.in-Some.ensures.items;
}

pub returns-clause-net : goal.returns-clause-net
returns-clause-net g c =
    building-end (with_plans c.args.tasks.now (map plan_in c.args.courses.items)) (with_plans (drop c.loop-task.task-index c.args.tasks.now) (map plan_in (into_iter_items c.loop-task.courses)))
    c.loop-task.bodies.items c.loop-task.task-index
    (none_left c.args.tasks.now c.loop-task.task-index (into_iter_items c.loop-task.courses) c.loop-task-test.false) c.loop-task.invariant.building

pub returns-clause-rooms : goal.returns-clause-rooms
returns-clause-rooms g c = all-rooms c.args.room c.loop-task.bodies.items c.loop-task.invariant.begun

pub returns-clause-fresh : goal.returns-clause-fresh
returns-clause-fresh g c = all-fresh c.args.room c.loop-task.bodies.items c.loop-task.invariant.begun
