use Rattle.std.proofs.Common.{◌≡◌, ◌++◌, drop}
use Rattle.journal_text.specs.Spelling.{seat_lines}
use Rattle.journal_text.proofs.writing.push_seats.Given as goal

-- the lines so far and those of the other seats are all lines
abbrev pub invariant-loop-i : goal.invariant-loop-i
invariant-loop-i l = l.lines ++ seat_lines l.i (drop l.i l.seats) ≡ l.fn.lines ++ seat_lines 0 l.seats
