use Rattle.std.proofs.Common.{arith, inl, inr}
use Rattle.journal_rules.proofs.masks.has_mask.Goals as goal

pub returns : goal.returns
returns c = λ j knows.
    let e = c.is_masked.ensures j knows in (
      λ yes. let h = e.0 yes in inr (omega arith, (h.0, h.1, tt)),
      λ h. elim h [ inl z ↦ absurd (c.if-r-eq0.false z.0) | inr p ↦ e.1 (p.1.0, p.1.1) ],
    )
