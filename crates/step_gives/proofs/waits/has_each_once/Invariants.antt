use Rattle.std.proofs.Common.{drop}
use Rattle.core_gives.specs.Waits.{HasEachOnce}
use Rattle.step_gives.proofs.waits.has_each_once.Given as goal

abbrev pub invariant-loop-i : goal.invariant-loop-i
invariant-loop-i l = record {
  rest : HasEachOnce l.entries → HasEachOnce (drop l.i l.entries);
  all : HasEachOnce (drop l.i l.entries) → HasEachOnce l.entries;
}
