use Rattle.std.proofs.Common.{ℕ, ◌<◌, get_or}
use Rattle.std.specs.List.{All}
use Rattle.run_rounds.specs.Seats.{IsIdle}
use Rattle.run_rounds.specs.declared.seat.Worker.{Worker}
use Rattle.run_rounds.proofs.rounds.are_all_idle.Given as goal

abbrev pub invariant-loop-worker : goal.invariant-loop-worker
invariant-loop-worker g l = (k : ℕ) (d : Worker _) → k < l.worker-index → All IsIdle (get_or l.workers k d).seats.items
