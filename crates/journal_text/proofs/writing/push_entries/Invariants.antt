use Rattle.std.proofs.Common.{◌≡◌, ◌++◌, take, map}
use Rattle.journal_text.specs.Spelling.{entry_line}
use Rattle.journal_text.proofs.writing.push_entries.Given as goal

abbrev pub invariant-loop-entry : goal.invariant-loop-entry
invariant-loop-entry l = l.lines ≡ l.fn.lines ++ map entry_line (take l.entry-index l.entries)
