use Rattle.journal_rules.proofs.Words.{never}
use Rattle.journal_rules.proofs.masks.may_mask.Goals as goal

pub returns-then-not-has_some : goal.returns-then-not-has_some
returns-then-not-has_some c = λ j knows seat index. (λ z. absurd (cc), λ h. absurd (never _ c.if-not-has_some.true (c.has_some.ensures.1 h.1)))

pub returns : goal.returns
returns c = λ j knows seat index.
    let f = c.follows_mask.ensures j knows in
    (λ yes. (f.0 yes, c.has_some.ensures.0 c.if-not-has_some.false), λ h. f.1 h.0)
