use Rattle.std.proofs.Common.{◌≡◌, ◌∙◌, ap, List, length, replicate, Option, None}
use Rattle.handoff_data.specs.declared.entry.Entry.{Entry}
use Rattle.handoff_data.specs.History.{History}
use Rattle.journal_rules.specs.declared.marks.Mark.{Mark}
use Rattle.journal_rules.proofs.Marking.{start_marks}
use Rattle.journal_rules.proofs.listings.no_marks.Goals as goal

pub returns : goal.returns
returns c =
    let same : c.as_slice-seats.result.now ≡ c.args.journals.now.seats = c.as_slice-seats.ensures.value ∙ ap (λ (h : History). h.seats) c.journals.view_is in
    start_marks c.args.journals.now c.in_ok-marks.marks.items
    (c.in_ok-marks.ensures ∙ ap (λ (xs : List (List Entry)). replicate {A = Option Mark} (length xs) None) same)
