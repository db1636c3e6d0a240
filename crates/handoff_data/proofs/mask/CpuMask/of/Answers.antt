use Rattle.handoff_data.proofs.Bits.{bits_of}
use Rattle.handoff_data.proofs.mask.CpuMask.of.Goals as goal

pub returns : goal.returns
returns c = λ k. let b = bits_of c.args.c k c.requires in (λ h. b.0 h.bit, λ e. record { bit = b.1 e })
