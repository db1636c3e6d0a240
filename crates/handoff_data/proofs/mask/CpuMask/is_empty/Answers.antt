use Rattle.std.proofs.Common.{eq-eqb, eqb-true}
use Rattle.handoff_data.proofs.Bits.{none_zero, zero_none}
use Rattle.handoff_data.proofs.mask.CpuMask.is_empty.Goals as goal

pub returns : goal.returns
returns c = (
  λ z k h. zero_none c.args.self.now.bits k (eqb-true c.args.self.now.bits 0 z) h.bit,
  λ none. eq-eqb c.args.self.now.bits 0 (none_zero c.args.self.now.bits (λ k one. none k (record { bit = one }))),
)
