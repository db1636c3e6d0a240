use Rattle.journal_rules.proofs.runs.follows_finish.Goals as goal

pub returns : goal.returns
returns c = λ j knows. let e = c.is_finish.ensures j knows in (λ yes _. e.0 yes, λ h. e.1 (h c.if-n-le1.false))
