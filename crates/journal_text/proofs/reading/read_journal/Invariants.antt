use Rattle.std.proofs.Common.{◌≡◌, ◌+◌, ◌≤◌, length}
use Rattle.std.specs.List.{slice_split}
use Rattle.journal_text.specs.Lines.{progress}
use Rattle.journal_text.specs.Text.{is_feed, byte_limit, parts_from, reading}
use Rattle.journal_text.proofs.reading.read_journal.Given as goal

-- the rest of the text says what the whole text says
abbrev pub invariant-lines : goal.invariant-lines
invariant-lines l =
    (parts_from l.line l.room (progress l.draft) (slice_split is_feed l.rest) ≡ reading l.fn.bytes)
    × (l.line + l.room ≤ byte_limit + 1)

abbrev pub decreases-lines : goal.decreases-lines
decreases-lines l = length l.rest
