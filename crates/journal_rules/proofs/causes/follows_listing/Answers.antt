use Rattle.journal_rules.proofs.causes.follows_listing.Goals as goal

pub returns-then-m-gt0 : goal.returns-then-m-gt0
returns-then-m-gt0 c = λ j knows. let e = c.is_listed_to.ensures j knows in (λ yes. (c.if-m-gt0.true, e.0 yes), λ h. e.1 h.1)
