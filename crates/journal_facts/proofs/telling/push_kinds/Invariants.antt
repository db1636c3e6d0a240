use Rattle.std.proofs.Common.{◌≡◌, ◌++◌, drop}
use Rattle.journal_facts.specs.Facts.{told_of}
use Rattle.journal_facts.proofs.telling.push_kinds.Given as goal

-- the facts so far and those of the other kinds are all facts
abbrev pub invariant-loop-kind : goal.invariant-loop-kind
invariant-loop-kind l =
    l.facts.items ++ told_of (drop l.kind-index l.kinds) l.seat l.index l.entry ≡ l.fn.facts.items ++ told_of l.kinds l.seat l.index l.entry
