use Rattle.std.proofs.Common.{arith}
use Rattle.journal_rules.proofs.Words.{never}
use Rattle.journal_legal.proofs.Numbered.{rose, one_more, lowest}
use Rattle.journal_legal.proofs.breaks.breaks_order.Goals as goal

pub rises_in_journal-requires-clause-rose : goal.rises_in_journal-requires-clause-rose
rises_in_journal-requires-clause-rose c = rose c.args.journals.now c.args.seat c.args.index c.requires.earlier

pub returns-then-not-leaves_while_running-clause-broken : goal.returns-then-not-leaves_while_running-clause-broken
returns-then-not-leaves_while_running-clause-broken c =
    let j = c.args.journals.now in
    let s = c.args.seat in
    let i = c.args.index in
    let e = c.args.entry in
    let five = c.rises_in_journal.ensures.0 c.if-not-rises_in_journal.false in
    let six = c.runs_alternate.ensures.0 c.if-not-runs_alternate.false in
    lowest j s i e 7 (omega arith) (omega arith) (one_more j s i e 6 (one_more j s i e 5 c.requires.lower five) six)
    (λ h. never _ c.if-not-leaves_while_running.true (c.leaves_while_running.ensures.1 h))

pub returns-then-not-listed_in_order-clause-broken : goal.returns-then-not-listed_in_order-clause-broken
returns-then-not-listed_in_order-clause-broken c =
    let j = c.args.journals.now in
    let s = c.args.seat in
    let i = c.args.index in
    let e = c.args.entry in
    let five = c.rises_in_journal.ensures.0 c.if-not-rises_in_journal.false in
    let six = c.runs_alternate.ensures.0 c.if-not-runs_alternate.false in
    let seven = c.leaves_while_running.ensures.0 c.if-not-leaves_while_running.false in
    lowest j s i e 8 (omega arith) (omega arith) (one_more j s i e 7 (one_more j s i e 6 (one_more j s i e 5 c.requires.lower five) six) seven)
    (λ h. never _ c.if-not-listed_in_order.true (c.listed_in_order.ensures.1 h))
