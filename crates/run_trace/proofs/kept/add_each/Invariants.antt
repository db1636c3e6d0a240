use Rattle.std.proofs.Common.{◌≡◌, ◌++◌, take}
use Rattle.run_trace.proofs.kept.add_each.Given as goal

abbrev pub invariant-loop-i : goal.invariant-loop-i
invariant-loop-i l = record { items : l.entries.items ≡ l.initial.entries.items ++ take l.i l.turn.entries }
