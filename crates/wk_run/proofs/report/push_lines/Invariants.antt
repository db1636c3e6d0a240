use Rattle.std.proofs.Common.{◌≡◌, ◌++◌, length}
use Rattle.journal_text.specs.Readable.{text_of}
use Rattle.wk_run.proofs.report.push_lines.Given as goal

-- what is written, and then the lines that are left, is the whole
abbrev pub invariant-loop-line : goal.invariant-loop-line
invariant-loop-line l = l.text.items ++ text_of l.lines ≡ l.initial.text.items ++ text_of l.initial.lines

abbrev pub decreases-loop-line : goal.decreases-loop-line
decreases-loop-line l = length l.lines
