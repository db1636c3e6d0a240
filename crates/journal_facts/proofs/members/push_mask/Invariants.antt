use Rattle.std.proofs.Common.{◌⊎◌, ◌↔◌}
use Rattle.std.specs.Prelude.{Contains}
use Rattle.journal_facts.specs.declared.fact.Fact.{Fact}
use Rattle.journal_facts.proofs.Growth.{CpuBelow}
use Rattle.journal_facts.proofs.members.push_mask.Given as goal

-- the members so far are those of the processors so far
abbrev pub invariant-loop-cpu : goal.invariant-loop-cpu
invariant-loop-cpu l = (f : Fact) → Contains l.members.items f ↔ (Contains l.fn.members.items f ⊎ CpuBelow l.t l.r l.mask l.cpu f)
