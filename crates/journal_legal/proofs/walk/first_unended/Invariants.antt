use Rattle.std.proofs.Common.{ℕ, ◌<◌}
use Rattle.handoff_data.specs.Legal.{HasEnded}
use Rattle.journal_legal.proofs.walk.first_unended.Given as goal

-- each task before this one has ended
abbrev pub invariant-loop-t : goal.invariant-loop-t
invariant-loop-t l = (lower : ℕ) → lower < l.t → HasEnded l.journals lower
