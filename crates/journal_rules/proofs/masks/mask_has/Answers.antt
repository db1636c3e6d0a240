use Rattle.std.proofs.Common.{arith, inl, inr}
use Rattle.journal_rules.proofs.masks.mask_has.Goals as goal

pub returns : goal.returns
returns c = λ j knows cpus.
    let e = c.is_member.ensures j knows in (
      λ yes. inr (omega arith, e.0 yes),
      λ h. elim h [ inl z ↦ absurd (c.if-r-eq0.false z.0) | inr p ↦ e.1 p.1 ],
    )
