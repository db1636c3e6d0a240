use Rattle.std.specs.Vec.Iter.{into_iter_items}
use Rattle.pipe_tasks.proofs.ForestLaws.{Foresting}
use Rattle.pipe_tasks.proofs.forest.run_forest.Given as goal

abbrev pub invariant-loop-task : goal.invariant-loop-task
invariant-loop-task l = Foresting l.fn.script.tasks l.yielded (into_iter_items l.task-iterator) l.done.items
