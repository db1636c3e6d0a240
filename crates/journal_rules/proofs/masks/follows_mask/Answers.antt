use Rattle.std.proofs.Common.{arith, inl, inr}
use Rattle.journal_rules.proofs.masks.follows_mask.Goals as goal

pub returns : goal.returns
returns c = λ j knows.
    let e = c.is_masked.ensures j knows in (
      λ yes. inr (omega arith, e.0 yes),
      λ h. elim h [ inl one ↦ absurd (c.if-r-eq1.false one) | inr p ↦ e.1 p.1 ],
    )
