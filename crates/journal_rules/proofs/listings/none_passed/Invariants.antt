use Rattle.std.proofs.Common.{◌≡◌, ◌<◌, ℕ, Some}
use Rattle.std.specs.Prelude.{slice_get}
use Rattle.handoff_data.specs.History.{History}
use Rattle.journal_facts.specs.declared.fact.Fact.{Fact}
use Rattle.journal_rules.specs.Marks.{AreMarks, IsPassed}
use Rattle.journal_rules.proofs.listings.none_passed.Given as goal

-- so far none is passed
abbrev pub invariant-loop-listing : goal.invariant-loop-listing
invariant-loop-listing l =
    (j : History) (here : ℕ) → AreMarks j l.seat here l.marks → (k : ℕ) (f : Fact) → k < l.listing-index → slice_get l.listings k ≡ Some f
    → ¬ IsPassed j l.seat here f.seat f.index
