use Rattle.std.proofs.Common.{inl, inr, refl}
use Rattle.journal_rules.proofs.Words.{never}
use Rattle.journal_rules.proofs.masks.left_off.Goals as goal

pub returns-then-is_sleep : goal.returns-then-is_sleep
returns-then-is_sleep c = λ j knows. let e = c.is_sleep.ensures j knows in let h = e.0 c.if-is_sleep.true in (λ yes. (h.0, inl h.1), λ _. refl)

pub returns : goal.returns
returns c = λ j knows.
    let e = c.is_sleep.ensures j knows in
    let d = c.is_end.ensures j knows in (
      λ yes. let h = d.0 yes in (h.0, inr h.1),
      λ h. elim h.1 [ inl s ↦ absurd (never _ c.if-is_sleep.false (e.1 (h.0, s))) | inr x ↦ d.1 (h.0, x) ],
    )
