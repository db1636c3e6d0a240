use Rattle.std.proofs.Common.{◌≡◌, ◌++◌, drop}
use Rattle.journal_facts.specs.Facts.{told_from}
use Rattle.journal_facts.proofs.telling.facts_of.Given as goal

abbrev pub invariant-loop-i : goal.invariant-loop-i
invariant-loop-i l = l.facts.items ++ told_from l.i (drop l.i l.seats) ≡ told_from 0 l.seats
