use Rattle.std.proofs.Common.{◌≡◌, ◌≤◌, ◌+◌, ◌++◌, length}
use Rattle.std.specs.Vec.{vec_capacity}
use Rattle.pipe_tasks.proofs.appending.move_lines.Given as goal

abbrev pub invariant-loop-line : goal.invariant-loop-line
invariant-loop-line l = record {
  room : length l.all.items + length l.lines ≤ vec_capacity l.all;
  moved : l.all.items ++ l.lines ≡ l.fn.all.items ++ l.initial.lines;
  same : vec_capacity l.all ≡ vec_capacity l.fn.all;
}

abbrev pub decreases-loop-line : goal.decreases-loop-line
decreases-loop-line l = length l.lines
