use Rattle.journal_rules.proofs.Words.{never}
use Rattle.journal_rules.proofs.masks.may_stand.Goals as goal

pub returns-then-not-stood_at : goal.returns-then-not-stood_at
returns-then-not-stood_at c = λ j knows members cpus seat index.
    (λ z. absurd (cc), λ h. absurd (never _ c.if-not-stood_at.true ((c.stood_at.ensures j knows).1 h.0)))

pub returns : goal.returns
returns c = λ j knows members cpus seat index.
    let s = c.stood_at.ensures j knows in
    let a = c.mask_allows.ensures j knows members cpus in
    (λ yes. (s.0 c.if-not-stood_at.false, a.0 yes), λ h. a.1 h.1)
