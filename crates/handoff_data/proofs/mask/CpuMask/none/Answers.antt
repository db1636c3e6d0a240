use Rattle.std.proofs.Common.{refl}
use Rattle.handoff_data.proofs.Bits.{zero_none}
use Rattle.handoff_data.proofs.mask.CpuMask.none.Goals as goal

pub returns-clause-members : goal.returns-clause-members
returns-clause-members c = λ k h. zero_none 0 k refl h.bit
