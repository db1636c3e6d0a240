use Rattle.std.proofs.Common.{◌≡◌, ◌<◌, ℕ, Some}
use Rattle.std.specs.Prelude.{slice_get}
use Rattle.handoff_data.specs.declared.entry.Entry.{Entry}
use Rattle.handoff_data.specs.Positions.{Stands}
use Rattle.journal_facts.specs.declared.fact.Fact.{Fact}
use Rattle.journal_rules.specs.Turns.{IsTakenBefore}
use Rattle.journal_rules.proofs.turns.are_done.Given as goal

-- so far each entry was queued so
abbrev pub invariant-loop-due : goal.invariant-loop-due
invariant-loop-due l =
    (k : ℕ) (f : Fact) (e : Entry) → k < l.due-index → slice_get l.dues k ≡ Some f → Stands l.journals f.seat f.index e
    → IsTakenBefore l.journals l.seat l.index e
