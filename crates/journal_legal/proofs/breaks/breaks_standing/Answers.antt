use Rattle.std.proofs.Common.{arith, refl}
use Rattle.journal_rules.proofs.Words.{never}
use Rattle.journal_legal.proofs.Numbered.{kept_so_far, one_more, keeps_all, lowest}
use Rattle.journal_legal.proofs.breaks.breaks_standing.Goals as goal

pub outage_leaves_none-requires-clause-in_range : goal.outage_leaves_none-requires-clause-in_range
outage_leaves_none-requires-clause-in_range c = (c.requires.lower 1 (omega arith)).in_range refl

pub outage_leaves_none-requires-clause-earlier : goal.outage_leaves_none-requires-clause-earlier
outage_leaves_none-requires-clause-earlier c = kept_so_far c.args.journals.now c.args.seat c.args.index c.requires.earlier

pub returns-then-not-masked_and_stood-clause-broken : goal.returns-then-not-masked_and_stood-clause-broken
returns-then-not-masked_and_stood-clause-broken c =
    let j = c.args.journals.now in
    let s = c.args.seat in
    let i = c.args.index in
    let e = c.args.entry in
    let nine = c.outage_leaves_none.ensures.0 c.if-not-outage_leaves_none.false in
    lowest j s i e 10 (omega arith) (omega arith) (one_more j s i e 9 c.requires.lower nine)
    (λ h. never _ c.if-not-masked_and_stood.true (c.masked_and_stood.ensures.1 h))

pub returns-then-not-done_stood-clause-broken : goal.returns-then-not-done_stood-clause-broken
returns-then-not-done_stood-clause-broken c =
    let j = c.args.journals.now in
    let s = c.args.seat in
    let i = c.args.index in
    let e = c.args.entry in
    let nine = c.outage_leaves_none.ensures.0 c.if-not-outage_leaves_none.false in
    let ten = c.masked_and_stood.ensures.0 c.if-not-masked_and_stood.false in
    lowest j s i e 11 (omega arith) (omega arith) (one_more j s i e 10 (one_more j s i e 9 c.requires.lower nine) ten)
    (λ h. never _ c.if-not-done_stood.true (c.done_stood.ensures.1 h))

pub returns-clause-kept : goal.returns-clause-kept
returns-clause-kept c =
    let j = c.args.journals.now in
    let s = c.args.seat in
    let i = c.args.index in
    let e = c.args.entry in
    let nine = c.outage_leaves_none.ensures.0 c.if-not-outage_leaves_none.false in
    let ten = c.masked_and_stood.ensures.0 c.if-not-masked_and_stood.false in
    let eleven = c.done_stood.ensures.0 c.if-not-done_stood.false in
    keeps_all j s i e (one_more j s i e 11 (one_more j s i e 10 (one_more j s i e 9 c.requires.lower nine) ten) eleven)
