use Rattle.std.proofs.Common.{◌≡◌, length}
use Rattle.handoff_data.specs.Line.{IsLine}
use Rattle.task_script.specs.Lines.{without_returns}
use Rattle.task_script.proofs.pieces.without_returns.Given as goal

abbrev pub invariant-loop-last : goal.invariant-loop-last
invariant-loop-last l = record { value : without_returns l.line ≡ without_returns l.initial.line; feeds : IsLine l.initial.line → IsLine l.line }

abbrev pub decreases-loop-last : goal.decreases-loop-last
decreases-loop-last l = length l.line
