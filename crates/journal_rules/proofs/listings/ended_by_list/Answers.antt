use Rattle.std.proofs.Common.{arith}
use Rattle.journal_rules.proofs.Marking.{listing_places}
use Rattle.journal_rules.proofs.listings.ended_by_list.Goals as goal

pub returns : goal.returns
returns c = λ j waker k knows.
    listing_places j c.args.facts.now c.facts_on.result.now knows c.args.t c.args.m c.args.c (omega arith) c.facts_on.ensures waker k
