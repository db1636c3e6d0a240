use Rattle.std.proofs.Common.{◌≡◌, take}
use Rattle.journal_text.specs.Text.{entries_in}
use Rattle.wk_run.proofs.check.count_entries.Given as goal

-- the entries of the journals so far
abbrev pub invariant-loop-journal : goal.invariant-loop-journal
invariant-loop-journal l = l.count ≡ entries_in (take l.journal-index l.seats)
