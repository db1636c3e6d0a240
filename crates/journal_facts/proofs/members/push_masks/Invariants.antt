use Rattle.std.proofs.Common.{◌⊎◌, ◌↔◌}
use Rattle.std.specs.Prelude.{Contains}
use Rattle.journal_facts.specs.declared.fact.Fact.{Fact}
use Rattle.journal_facts.proofs.Growth.{EntryBelow}
use Rattle.journal_facts.proofs.members.push_masks.Given as goal

-- the members so far are those of the entries so far
abbrev pub invariant-loop-entry : goal.invariant-loop-entry
invariant-loop-entry l = (f : Fact) → Contains l.members.items f ↔ (Contains l.fn.members.items f ⊎ EntryBelow l.entries l.entry-index f)
