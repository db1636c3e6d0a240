use Rattle.std.proofs.Common.{◌≡◌, ◌<◌, length, All, arith, subst, sym}
use Rattle.std.specs.Prelude.{AllPairs}
use Rattle.std.specs.Vec.Iter.{into_iter_items}
use Rattle.task_script.specs.Plan.{sides}
use Rattle.pipe_tasks.proofs.ForestLaws.{Differ, task-sides, task-earlier, task-once, Foresting-steps, Foresting-ends}
use Rattle.pipe_tasks.proofs.forest.run_forest.Goals as goal

pub run_reader-requires-clause-sides : goal.run_reader-requires-clause-sides
run_reader-requires-clause-sides c =
    subst
    (λ z. length z ≡ sides c.in-Some.task.plan) (sym c.as_slice.ensures) (task-sides c.args.script.tasks c.requires c.loop-task.yielded (into_iter_items c.next.new.self)
    (into_iter_items c.loop-task.task-iterator) c.in-Some.task c.loop-task.done.items
    c.loop-task.invariant c.in-Some.ensures.steps.0)

pub run_reader-requires-clause-earlier : goal.run_reader-requires-clause-earlier
run_reader-requires-clause-earlier c =
    subst (λ z. All (λ s. s < length c.loop-task.done.items) z) (sym c.as_slice.ensures) (task-earlier c.args.script.tasks c.requires c.loop-task.yielded (into_iter_items c.next.new.self)
    (into_iter_items c.loop-task.task-iterator) c.in-Some.task c.loop-task.done.items
    c.loop-task.invariant c.in-Some.ensures.steps.0)

pub run_reader-requires-clause-once : goal.run_reader-requires-clause-once
run_reader-requires-clause-once c =
    subst
    (λ z. AllPairs Differ z) (sym c.as_slice.ensures) (task-once c.args.script.tasks c.requires c.loop-task.yielded (into_iter_items c.next.new.self) (into_iter_items c.loop-task.task-iterator)
    c.in-Some.task c.loop-task.done.items
    c.loop-task.invariant c.in-Some.ensures.steps.0)

pub loop-task-preserved : goal.loop-task-preserved
loop-task-preserved c = Foresting-steps c.args.script.tasks c.requires c.loop-task.yielded (into_iter_items c.next.new.self) (into_iter_items c.loop-task.task-iterator) c.in-Some.task
    c.loop-task.done.items
    c.loop-task.invariant c.in-Some.ensures.steps.0 c.in_ok-lines.lines c.run_reader.new.done.items c.push.new.self.items
    (rw c.as_slice.ensures at c.in_ok-lines.ensures.lines) (rw c.as_slice.ensures at c.in_ok-lines.ensures.taken) c.in_ok-push.ensures.items

pub returns : goal.returns
returns c = Foresting-ends c.args.script.tasks c.loop-task.yielded (into_iter_items c.loop-task.task-iterator) c.loop-task.done.items (omega (
  arith,
  c.in-None.ensures.steps.0,
  c.loop-task.task-iterator.rest.ok,
)) c.loop-task.invariant
