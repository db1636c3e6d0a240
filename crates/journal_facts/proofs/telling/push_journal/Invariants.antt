use Rattle.std.proofs.Common.{◌≡◌, ◌++◌, drop}
use Rattle.journal_facts.specs.Facts.{told_in}
use Rattle.journal_facts.proofs.telling.push_journal.Given as goal

-- the facts so far and those of the other entries are all facts
abbrev pub invariant-loop-i : goal.invariant-loop-i
invariant-loop-i l = l.facts.items ++ told_in l.seat l.i (drop l.i l.entries) ≡ l.fn.facts.items ++ told_in l.seat 0 l.entries
