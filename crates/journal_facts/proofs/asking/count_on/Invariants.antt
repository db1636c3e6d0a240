use Rattle.std.proofs.Common.{◌<◌, ℕ}
use Rattle.std.specs.Prelude.{slice_index_or}
use Rattle.journal_facts.specs.declared.fact.Fact.{Fact}
use Rattle.journal_facts.specs.Answers.{IsOn}
use Rattle.journal_facts.proofs.asking.count_on.Given as goal

abbrev pub invariant-loop-i : goal.invariant-loop-i
invariant-loop-i l = (k : ℕ) (d : Fact) → k < l.i → IsOn (slice_index_or l.rest k d) l.kind l.subject l.number l.cpu
