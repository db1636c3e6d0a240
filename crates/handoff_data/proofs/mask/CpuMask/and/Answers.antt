use Rattle.handoff_data.proofs.Bits.{bits_and}
use Rattle.handoff_data.proofs.mask.CpuMask.and.Goals as goal

pub returns : goal.returns
returns c = λ k.
    let b = bits_and c.args.self.now.bits c.args.other.now.bits k in
    (λ h. (record { bit = (b.0 h.bit).0 }, record { bit = (b.0 h.bit).1 }), λ e. record { bit = b.1 (e.0.bit, e.1.bit) })
