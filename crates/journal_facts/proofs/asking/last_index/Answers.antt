use Rattle.journal_facts.proofs.Lasts.{caught, is_last, below_key}
use Rattle.journal_facts.proofs.asking.last_index.Goals as goal

pub returns-then-is_in_journal-clause-last : goal.returns-then-is_in_journal-clause-last
returns-then-is_in_journal-clause-last c =
    let h = c.is_in_journal.ensures.0 c.if-is_in_journal.true in
    is_last c.args.facts.now c.args.kind c.args.subject c.args.seat c.args.index c.in-Some.fact c.in-Some.ensures.found.0 c.in-Some.ensures.found.1
    c.in-Some.ensures.greatest h.0 h.1

pub returns-else-is_in_journal-clause-none : goal.returns-else-is_in_journal-clause-none
returns-else-is_in_journal-clause-none c = λ x less has.
    let b = caught c.args.facts.now c.args.kind c.args.subject c.args.seat c.args.index c.in-Some.fact c.in-Some.ensures.found.0 c.in-Some.ensures.found.1
    c.in-Some.ensures.greatest x less has in
    let yes = c.is_in_journal.ensures.1 (b.on, b.seat_is) in
    let not = c.if-is_in_journal.false in
    cc

pub returns-in-None-clause-none : goal.returns-in-None-clause-none
returns-in-None-clause-none c = λ x less has.
    c.in-None.ensures.none _ has (below_key c.args.facts.now c.args.kind c.args.subject c.args.seat c.args.index x less)
