use Rattle.std.proofs.Common.{◌≡◌}
use Rattle.std.specs.List.{All}
use Rattle.run_rounds.specs.Seats.{IsReady}
use Rattle.run_rounds.proofs.tests.apart.Given as goal

abbrev pub invariant-loop-seat : goal.invariant-loop-seat
invariant-loop-seat g l = record {
  can_next : (goal.iterator-loop-seat g).can_next l.seat-iterator;
  is_finite : (goal.iterator-loop-seat g).is_finite l.seat-iterator;
  left : All (IsReady l.wk) l.seat-iterator.rest.items;
  ready : All (λ w. All (IsReady l.wk) w.seats.items) l.workers.items;
}
