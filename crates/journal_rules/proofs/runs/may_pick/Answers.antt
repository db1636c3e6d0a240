use Rattle.journal_rules.proofs.runs.may_pick.Goals as goal

pub returns : goal.returns
returns c = λ j knows. let e = c.follows_finish.ensures j knows in (λ yes. (c.if-n-ne1.false, e.0 yes), λ h. e.1 h.1)
