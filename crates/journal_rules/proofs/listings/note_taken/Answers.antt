use Rattle.std.proofs.Common.{length, ◌+◌}
use Rattle.journal_rules.specs.Marks.{IsTakenFrom}
use Rattle.journal_rules.proofs.Marking.{all_within, taken_next, marks_ext}
use Rattle.journal_rules.proofs.listings.note_taken.Goals as goal

pub note_all-requires : goal.note_all-requires
note_all-requires c =
    let j = c.args.journals.now in
    all_within j c.args.entry c.ended.result.now (λ w k. c.ended.ensures j w k c.requires.facts) (length c.args.marks.now) c.requires.marks.marked

pub returns : goal.returns
returns c =
    let j = c.args.journals.now in
    marks_ext _ (IsTakenFrom j c.args.seat (c.args.index + 1)) (length j.seats) c.args.seat c.note_all.new.marks
    (taken_next j c.args.entry c.ended.result.now (λ w k. c.ended.ensures j w k c.requires.facts) c.args.seat c.args.index c.requires.stands)
    (c.note_all.ensures j c.args.index c.requires.marks)
