use Rattle.std.proofs.Common.{◌-◌}
use Rattle.pipe_tasks.proofs.RunLaws.{Turning}
use Rattle.pipe_tasks.proofs.runs.run_plan.Given as goal

abbrev pub invariant-loop-taken : goal.invariant-loop-taken
invariant-loop-taken l = Turning l.initial.plan l.initial.lines l.plan l.lines (l.count - l._taken)
