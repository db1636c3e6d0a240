use Rattle.std.proofs.Common.{◌≡◌, length, All}
use Rattle.run_rounds.specs.Seats.{IsReady, GoOn}
use Rattle.run_script.proofs.starts.start_all.Given as goal

abbrev pub invariant-loop-t : goal.invariant-loop-t
invariant-loop-t g l = record {
  goes : GoOn g.G.Gate.told l.initial.seats.items l.seats.items;
  ready : All (IsReady l.wk) l.seats.items;
  count : length l.seats.items ≡ length l.initial.seats.items;
}
