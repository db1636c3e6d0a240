use Rattle.std.proofs.Common.{◌≡◌, drop}
use Rattle.core_data.specs.Columns.{columns}
use Rattle.core_gives.specs.Waits.{is_walk}
use Rattle.step_gives.proofs.waits.is_walk.Given as goal

abbrev pub invariant-loop-x : goal.invariant-loop-x
invariant-loop-x l = is_walk ((columns l.core).has_passed l.s l.k) l.taken ≡ is_walk ((columns l.core).has_passed l.s l.k) (drop l.x-index l.taken)
