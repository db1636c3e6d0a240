use Rattle.journal_facts.proofs.Fronts.{tells_on, has_on, up_told_on}
use Rattle.journal_facts.proofs.asking.is_told_on.Goals as goal

pub returns-in-Some : goal.returns-in-Some
returns-in-Some c =
    let facts = c.args.facts.now in
    let f = c.in-Some.fact in
    let found = c.in-Some.ensures.found in
    let least = c.in-Some.ensures.least in (
      λ yes. let on = c.is_on.ensures.0 yes in tells_on facts c.args.kind c.args.subject c.args.number f found.0 c.args.cpu on.front on.cpu_is,
      λ t. let h = has_on facts c.args.kind c.args.subject c.args.number f c.args.cpu found.1 least t in
          c.is_on.ensures.1 (record { front = h.0; cpu_is = h.1 }),
    )

pub returns-in-None : goal.returns-in-None
returns-in-None c = (λ e. absurd (cc), λ t. absurd (c.in-None.ensures.none _ t.told (up_told_on _ c.args.kind c.args.subject c.args.number c.args.cpu t)))
