use Rattle.std.proofs.Common.{◌⊎◌, ℕ, length}
use Rattle.handoff_data.specs.History.{History}
use Rattle.journal_rules.specs.Marks.{AreMarks, AreMarksOf, IsTakenFrom}
use Rattle.journal_rules.proofs.Marking.{IsPlaceBelow}
use Rattle.journal_rules.proofs.listings.note_all.Given as goal

-- the marks are raised by the listings so far
abbrev pub invariant-loop-listing : goal.invariant-loop-listing
invariant-loop-listing l =
    (j : History) (here : ℕ) → AreMarks j l.seat here l.fn.marks
    → AreMarksOf (λ (w k : ℕ). IsTakenFrom j l.seat here w k ⊎ IsPlaceBelow l.listings l.listing-index w k) (length j.seats) l.seat l.marks
