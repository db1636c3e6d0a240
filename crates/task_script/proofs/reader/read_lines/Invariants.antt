use Rattle.std.proofs.Common.{◌≡◌, ◌+◌, ◌≤◌, length}
use Rattle.task_script.specs.Lines.{input_lines}
use Rattle.task_script.specs.Reading.{state_of, start, run}
use Rattle.task_script.proofs.reader.read_lines.Given as goal

abbrev pub invariant-loop-line : goal.invariant-loop-line
invariant-loop-line l =
    record {
      reads : run (l.number + 1) (state_of l.reader) (input_lines l.rest) ≡ run 1 (start l.customs) (input_lines l.bytes);
      counts : l.number + length (input_lines l.rest) ≡ length (input_lines l.bytes);
      few : l.number + length l.rest ≤ length l.bytes;
    }

abbrev pub decreases-loop-line : goal.decreases-loop-line
decreases-loop-line l = length l.rest
