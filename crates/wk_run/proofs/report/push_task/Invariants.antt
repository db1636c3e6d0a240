use Rattle.std.proofs.Common.{◌≡◌, ◌++◌, length}
use Rattle.wk_run.specs.Named.{report_lines}
use Rattle.wk_run.proofs.report.push_task.Given as goal

-- what is written, and then what the lines that are left give, is the whole
abbrev pub invariant-loop-line : goal.invariant-loop-line
invariant-loop-line l =
    l.text.items ++ report_lines l.plain l.name l.lines ≡ l.initial.text.items ++ report_lines l.plain l.name l.initial.lines

abbrev pub decreases-loop-line : goal.decreases-loop-line
decreases-loop-line l = length l.lines
