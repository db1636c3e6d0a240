use Rattle.std.proofs.Common.{◌≡◌, length, All}
use Rattle.run_rounds.specs.Seats.{IsReady, AllGoOn}
use Rattle.run_rounds.proofs.rounds.run_rounds.Given as goal

abbrev pub invariant-loop : goal.invariant-loop
invariant-loop g l = record {
  count : length l.workers.items ≡ length l.initial.workers.items;
  goes : AllGoOn g.G.Gate.told l.initial.workers.items l.workers.items;
  ready : All (λ w. All (IsReady l.wk) w.seats.items) l.workers.items;
}
