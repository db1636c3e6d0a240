use Rattle.std.proofs.Common.{◌≡◌, ◌++◌}
use Rattle.task_script.specs.Plan.{sides}
use Rattle.pipe_tasks.specs.Plans.{lines_of}
use Rattle.pipe_tasks.specs.Joins.{items_left}
use Rattle.pipe_tasks.proofs.joins.run_join.Given as goal

abbrev pub invariant-items : goal.invariant-items
invariant-items l = record {
  two : sides l.plan ≡ 2;
  lines : l.out ++ lines_of l.plan l.first l.second ≡ lines_of l.initial.plan l.initial.first l.initial.second;
}

abbrev pub decreases-items : goal.decreases-items
decreases-items l = items_left l.plan l.first l.second
