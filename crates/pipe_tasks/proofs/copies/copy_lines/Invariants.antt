use Rattle.std.proofs.Common.{◌≡◌, take}
use Rattle.pipe_tasks.proofs.copies.copy_lines.Given as goal

abbrev pub invariant-loop-index : goal.invariant-loop-index
invariant-loop-index l = l.copy.items ≡ take l.index l.lines
