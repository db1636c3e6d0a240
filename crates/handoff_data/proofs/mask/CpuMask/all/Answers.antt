use Rattle.handoff_data.proofs.Bits.{bits_all}
use Rattle.handoff_data.proofs.mask.CpuMask.all.Goals as goal

pub returns : goal.returns
returns c = λ k. let b = bits_all c.args.cpus k c.requires in (λ h. b.0 h.bit, λ e. record { bit = b.1 e })
