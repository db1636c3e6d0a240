use Rattle.std.proofs.Common.{ℕ, ◌<◌}
use Rattle.run_rounds.specs.Seats.{HasDiedSomewhere}
use Rattle.run_rounds.proofs.rounds.have_died.Given as goal

abbrev pub invariant-loop-t : goal.invariant-loop-t
invariant-loop-t g l = (t : ℕ) → t < l.t → HasDiedSomewhere l.workers t
