use Rattle.std.proofs.Common.{arith, drop, ◌+◌, map}
use Rattle.std.specs.Vec.Iter.{into_iter_items}
use Rattle.pipe_bodies.specs.Nets.{with_plan, begun_tasks, lasting_of}
use Rattle.pipe_bodies.proofs.SettleLaws.{starts, at_body, at_none, at_end, next-joint, next-ended, steps, settled-kept, settled-forest}
use Rattle.pipe_bodies.proofs.settling.settle.Goals as goal

pub loop-task-init : goal.loop-task-init
loop-task-init g c = rw (c.into_iter-bodies.ensures.rest, c.new-outputs.ensures.items, c.new-kept.ensures.items) (starts (begun_tasks c.args.tasks.now (map lasting_of c.args.bodies.items))
    c.args.bodies.items c.requires.net c.requires.ended)

pub unreachable-requires : goal.unreachable-requires
unreachable-requires g c = at_none (begun_tasks c.args.tasks.now (map lasting_of c.args.bodies.items)) c.args.tasks.now c.args.bodies.items c.loop-task.outputs.items c.loop-task.kept.items
    c.loop-task.task-index c.task-item.result
    (into_iter_items c.loop-task.bodies) c.loop-task-test.true
    c.task-item.is (omega (arith, c.in_default.ensures.cases, c.loop-task.bodies.rest.ok)) c.loop-task.invariant

pub settle_one-requires-clause-ended : goal.settle_one-requires-clause-ended
settle_one-requires-clause-ended g c κs within = next-ended (begun_tasks c.args.tasks.now (map lasting_of c.args.bodies.items)) c.args.bodies.items c.loop-task.outputs.items c.loop-task.kept.items
    (with_plan c.task-item.result c.in-Some.body.lasting.begun)
    (begun_tasks (drop (c.loop-task.task-index + 1) c.args.tasks.now) (map lasting_of (into_iter_items c.next.new.self)))
    c.in-Some.body (into_iter_items c.next.new.self)
    (at_body (begun_tasks c.args.tasks.now (map lasting_of c.args.bodies.items)) c.args.tasks.now c.args.bodies.items c.loop-task.outputs.items c.loop-task.kept.items c.loop-task.task-index
    c.task-item.result c.in-Some.body (into_iter_items c.next.new.self)
    (into_iter_items c.loop-task.bodies) c.loop-task-test.true c.task-item.is c.in-Some.ensures.items c.loop-task.invariant)

pub settle_one-requires-clause-joint : goal.settle_one-requires-clause-joint
settle_one-requires-clause-joint g c κs within = next-joint (begun_tasks c.args.tasks.now (map lasting_of c.args.bodies.items)) c.args.bodies.items c.loop-task.outputs.items c.loop-task.kept.items
    (with_plan c.task-item.result c.in-Some.body.lasting.begun)
    (begun_tasks (drop (c.loop-task.task-index + 1) c.args.tasks.now) (map lasting_of (into_iter_items c.next.new.self)))
    c.in-Some.body (into_iter_items c.next.new.self)
    (at_body (begun_tasks c.args.tasks.now (map lasting_of c.args.bodies.items)) c.args.tasks.now c.args.bodies.items c.loop-task.outputs.items c.loop-task.kept.items c.loop-task.task-index
    c.task-item.result c.in-Some.body (into_iter_items c.next.new.self)
    (into_iter_items c.loop-task.bodies) c.loop-task-test.true c.task-item.is c.in-Some.ensures.items c.loop-task.invariant)

pub loop-task-preserved : goal.loop-task-preserved
loop-task-preserved g c = steps (begun_tasks c.args.tasks.now (map lasting_of c.args.bodies.items)) c.args.bodies.items c.loop-task.outputs.items c.loop-task.kept.items (with_plan c.task-item.result
    c.in-Some.body.lasting.begun)
    (begun_tasks (drop (c.loop-task.task-index + 1) c.args.tasks.now) (map lasting_of (into_iter_items c.next.new.self)))
    c.in-Some.body (into_iter_items c.next.new.self)
    (at_body (begun_tasks c.args.tasks.now (map lasting_of c.args.bodies.items)) c.args.tasks.now c.args.bodies.items c.loop-task.outputs.items c.loop-task.kept.items c.loop-task.task-index
    c.task-item.result c.in-Some.body (into_iter_items c.next.new.self)
    (into_iter_items c.loop-task.bodies) c.loop-task-test.true c.task-item.is c.in-Some.ensures.items c.loop-task.invariant)
    c.settle_one.new.outputs.items c.settle_one.new.kept.items c.in_ok-settle_one.ensures.rings c.in_ok-settle_one.ensures.kept c.in_ok-settle_one.ensures.lines

pub returns-clause-kept : goal.returns-clause-kept
returns-clause-kept g c = settled-kept (begun_tasks c.args.tasks.now (map lasting_of c.args.bodies.items)) c.args.bodies.items (into_iter_items c.loop-task.bodies) c.loop-task.outputs.items
    c.loop-task.kept.items
    (at_end (begun_tasks c.args.tasks.now (map lasting_of c.args.bodies.items)) c.args.tasks.now c.args.bodies.items c.loop-task.outputs.items c.loop-task.kept.items c.loop-task.task-index
    (into_iter_items c.loop-task.bodies) c.loop-task-test.false
    c.loop-task.invariant)

pub returns-clause-forest : goal.returns-clause-forest
returns-clause-forest g c = settled-forest (begun_tasks c.args.tasks.now (map lasting_of c.args.bodies.items)) c.args.bodies.items (into_iter_items c.loop-task.bodies) c.loop-task.outputs.items
    c.loop-task.kept.items
    (at_end (begun_tasks c.args.tasks.now (map lasting_of c.args.bodies.items)) c.args.tasks.now c.args.bodies.items c.loop-task.outputs.items c.loop-task.kept.items c.loop-task.task-index
    (into_iter_items c.loop-task.bodies) c.loop-task-test.false
    c.loop-task.invariant) c.requires.net
