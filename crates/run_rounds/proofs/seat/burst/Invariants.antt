use Rattle.run_rounds.specs.Seats.{IsReady, Goes}
use Rattle.run_rounds.proofs.seat.burst.Given as goal

abbrev pub invariant-loop-n : goal.invariant-loop-n
invariant-loop-n g l = record { goes : Goes g.G.Gate.told l.initial.seat l.seat; ready : IsReady l.wk l.seat }
