use Rattle.std.proofs.Common.{◌≡◌, take}
use Rattle.core_data.specs.Entries.{is_gone}
use Rattle.step_data.proofs.pos.is_gone.Given as goal

abbrev pub invariant-loop-x : goal.invariant-loop-x
invariant-loop-x l = l.gone ≡ is_gone (take l.x-index l.taken) l.given l.t
