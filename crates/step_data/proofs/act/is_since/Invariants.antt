use Rattle.std.proofs.Common.{◌≡◌, take}
use Rattle.core_data.specs.Acts.{since}
use Rattle.step_data.proofs.act.is_since.Given as goal

abbrev pub invariant-loop-act : goal.invariant-loop-act
invariant-loop-act l = l.known ≡ since l.fact l.end (take l.act-index l.acts)
