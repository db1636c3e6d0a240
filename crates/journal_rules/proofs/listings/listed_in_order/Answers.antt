use Rattle.journal_rules.proofs.Words.{both}
use Rattle.journal_rules.proofs.Marking.{all_within, order_by}
use Rattle.std.proofs.Common.{length}
use Rattle.journal_rules.proofs.listings.listed_in_order.Goals as goal

pub none_passed-requires : goal.none_passed-requires
none_passed-requires c =
    let j = c.args.journals.now in
    all_within j c.args.entry c.ended.result.now (λ w k. c.ended.ensures j w k c.requires.facts) (length c.args.marks.now) c.requires.marks.marked

pub returns : goal.returns
returns c =
    let j = c.args.journals.now in
    both (c.none_passed.ensures j c.args.index c.requires.marks)
    (order_by j c.args.entry c.ended.result.now (λ w k. c.ended.ensures j w k c.requires.facts) c.args.seat c.args.index)
