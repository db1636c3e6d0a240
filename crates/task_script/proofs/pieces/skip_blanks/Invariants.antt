use Rattle.std.proofs.Common.{◌≡◌, length}
use Rattle.handoff_data.specs.Line.{IsLine}
use Rattle.task_script.specs.Lines.{skip_blanks}
use Rattle.task_script.proofs.pieces.skip_blanks.Given as goal

abbrev pub invariant-loop-line : goal.invariant-loop-line
invariant-loop-line l = record { value : skip_blanks l.line ≡ skip_blanks l.initial.line; feeds : IsLine l.initial.line → IsLine l.line }

abbrev pub decreases-loop-line : goal.decreases-loop-line
decreases-loop-line l = length l.line
