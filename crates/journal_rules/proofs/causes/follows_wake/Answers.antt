use Rattle.std.proofs.Common.{arith}
use Rattle.journal_rules.proofs.Words.{not_yes, yes_not}
use Rattle.journal_rules.proofs.causes.follows_wake.Goals as goal

pub returns-then-not-is_woken_before : goal.returns-then-not-is_woken_before
returns-then-not-is_woken_before c = λ j knows.
    let e = c.is_woken_before.ensures j knows in
    let no_wake = c.if-not-is_woken_before.true in
    (λ z. absurd (cc), λ h. let yes = e.1 h.1 in cc)

pub returns : goal.returns
returns c = λ j knows.
    let e = c.is_woken_before.ensures j knows in
    let l = c.is_listed.ensures j knows in (
      λ yes. (omega arith, e.0 c.if-not-is_woken_before.false, λ h. not_yes _ yes (l.1 h)),
      λ h. yes_not _ (λ yes. h.2 (l.0 yes)),
    )
