use Rattle.std.proofs.Common.{inl, inr}
use Rattle.std.proofs.Common.{ℕ, ap, bit_or, arith}
use Rattle.handoff_data.specs.declared.mask.CpuMask.{CpuMask}
use Rattle.handoff_data.proofs.Bits.{bits_with, shifted_one}
use Rattle.handoff_data.proofs.mask.CpuMask.with.Goals as goal

pub returns-clause-members : goal.returns-clause-members
returns-clause-members c = λ k.
    let b = bits_with c.args.self.now.bits c.args.c k c.requires in (
      λ h. elim (b.0 h.bit) [ inl old ↦ inl (record { bit = old }) | inr new ↦ inr new ],
      λ e. record { bit = b.1 (elim e [ inl old ↦ inl old.bit | inr new ↦ inr new ]) },
    )

pub returns-clause-exact : goal.returns-clause-exact
returns-clause-exact c =
    ap (λ (n : ℕ). let m : CpuMask = record { bits = bit_or c.args.self.now.bits n } in m) (shifted_one c.args.c (omega (arith, c.requires)))
