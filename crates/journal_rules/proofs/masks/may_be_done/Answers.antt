use Rattle.journal_rules.proofs.masks.may_be_done.Goals as goal

pub returns-then-not-is_masked_before : goal.returns-then-not-is_masked_before
returns-then-not-is_masked_before c = λ j knows.
    let e = c.is_masked_before.ensures j knows in
    let no_mask = c.if-not-is_masked_before.true in
    (λ z. absurd (cc), λ h. let yes = e.1 h.0 in cc)

pub returns : goal.returns
returns c = λ j knows.
    let e = c.is_masked_before.ensures j knows in
    let s = c.is_stood_from.ensures j knows in
    (λ yes. (e.0 c.if-not-is_masked_before.false, s.0 yes), λ h. s.1 h.1)
