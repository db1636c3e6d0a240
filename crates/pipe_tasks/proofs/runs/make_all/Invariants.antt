use Rattle.std.proofs.Common.{length, []}
use Rattle.pipe_tasks.specs.Plans.{lines_of}
use Rattle.pipe_tasks.proofs.RunLaws.{Making}
use Rattle.pipe_tasks.proofs.runs.make_all.Given as goal

abbrev pub invariant-loop-out : goal.invariant-loop-out
invariant-loop-out l = Making l.initial.plan l.plan l.out

abbrev pub decreases-loop-out : goal.decreases-loop-out
decreases-loop-out l = length (lines_of l.plan [] [])
