use Rattle.std.proofs.Common.{◌≡◌, take}
use Rattle.core_data.specs.Entries.{has_entry}
use Rattle.step_data.proofs.pos.has_entry.Given as goal

abbrev pub invariant-loop-x : goal.invariant-loop-x
invariant-loop-x l = l.found ≡ has_entry (take l.x-index l.entries) l.entry
