use Rattle.std.proofs.Common.{◌↔◌}
use Rattle.std.specs.Prelude.{Contains}
use Rattle.journal_facts.specs.declared.fact.Fact.{Fact}
use Rattle.journal_facts.proofs.Growth.{JournalBelow}
use Rattle.journal_facts.proofs.members.members_of.Given as goal

-- the members so far are those of the journals so far
abbrev pub invariant-loop-journal : goal.invariant-loop-journal
invariant-loop-journal l = (f : Fact) → Contains l.members.items f ↔ (JournalBelow l.seats l.journal-index f)
