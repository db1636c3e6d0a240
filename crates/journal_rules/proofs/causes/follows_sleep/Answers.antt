use Rattle.journal_rules.proofs.causes.follows_sleep.Goals as goal

pub returns-then-m-gt1 : goal.returns-then-m-gt1
returns-then-m-gt1 c = λ j knows. let e = c.is_sleep.ensures j knows in (λ yes. (c.if-m-gt1.true, e.0 yes), λ h. e.1 h.1)
