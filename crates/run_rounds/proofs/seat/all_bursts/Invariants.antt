use Rattle.std.proofs.Common.{All}
use Rattle.run_rounds.specs.Seats.{IsReady, GoOn}
use Rattle.run_rounds.proofs.seat.all_bursts.Given as goal

abbrev pub invariant-loop : goal.invariant-loop
invariant-loop g l = record { goes : GoOn g.G.Gate.told l.initial.seats.items l.seats.items; ready : All (IsReady l.wk) l.seats.items }
