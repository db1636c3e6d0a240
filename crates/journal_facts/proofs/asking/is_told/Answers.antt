use Rattle.journal_facts.proofs.Fronts.{tells, has_front, up_told}
use Rattle.journal_facts.proofs.asking.is_told.Goals as goal

pub returns-in-Some : goal.returns-in-Some
returns-in-Some c =
    let facts = c.args.facts.now in
    let f = c.in-Some.fact in
    let found = c.in-Some.ensures.found in
    let least = c.in-Some.ensures.least in (
      λ yes. tells facts c.args.kind c.args.subject c.args.number f found.0 (c.has_front.ensures.0 yes),
      λ t. c.has_front.ensures.1 (has_front facts c.args.kind c.args.subject c.args.number f found.1 least t),
    )

pub returns-in-None : goal.returns-in-None
returns-in-None c = (λ e. absurd (cc), λ t. absurd (c.in-None.ensures.none _ t.told (up_told _ c.args.kind c.args.subject c.args.number t)))
