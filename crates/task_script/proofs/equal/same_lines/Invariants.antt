use Rattle.std.proofs.Common.{◌≡◌, take}
use Rattle.task_script.proofs.equal.same_lines.Given as goal

abbrev pub invariant-loop-index : goal.invariant-loop-index
invariant-loop-index l = take l.index l.lines ≡ take l.index l.others
