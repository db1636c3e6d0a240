use Rattle.journal_facts.proofs.Lasts.{about, is_highest, below_next}
use Rattle.journal_facts.proofs.asking.highest.Goals as goal

pub returns-then-is_about-clause-highest : goal.returns-then-is_about-clause-highest
returns-then-is_about-clause-highest c =
    let h = c.is_about.ensures.0 c.if-is_about.true in
    is_highest c.args.facts.now c.args.kind c.args.subject c.in-Some.fact c.in-Some.ensures.found.0 c.in-Some.ensures.found.1 c.in-Some.ensures.greatest h.0 h.1

pub returns-else-is_about-clause-none : goal.returns-else-is_about-clause-none
returns-else-is_about-clause-none c = λ number g.
    let b = about c.args.facts.now c.args.kind c.args.subject c.in-Some.fact c.in-Some.ensures.found.0 c.in-Some.ensures.found.1 c.in-Some.ensures.greatest
    number g in
    let yes = c.is_about.ensures.1 (b.0, b.1) in
    let not = c.if-is_about.false in
    cc

pub returns-in-None-clause-none : goal.returns-in-None-clause-none
returns-in-None-clause-none c = λ number g.
    c.in-None.ensures.none _ g.told (below_next c.args.kind c.args.subject number g.cpu g.seat g.index)
