use Rattle.std.proofs.Common.{◌≡◌, ◌++◌, take, string_bytes}
use Rattle.handoff_data.specs.Line.{IsLine}
use Rattle.journal_text.specs.Spelling.{fields}
use Rattle.journal_text.proofs.writing.numbers.Given as goal

abbrev pub invariant-loop-n : goal.invariant-loop-n
invariant-loop-n l = (string_bytes l.text ≡ l.keyword ++ fields (take l.n-index l.ns)) × IsLine (string_bytes l.text)
