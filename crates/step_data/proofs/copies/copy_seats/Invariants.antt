use Rattle.std.proofs.Common.{◌≡◌, take}
use Rattle.step_data.proofs.copies.copy_seats.Given as goal

abbrev pub invariant-loop-i : goal.invariant-loop-i
invariant-loop-i l = l.copy.items ≡ take l.i l.rows.items
