use Rattle.std.proofs.Common.{◌≡◌, ◌+◌, ◌≤◌, ◌++◌, List, length}
use Rattle.std.specs.Vec.{vec_capacity}
use Rattle.std.specs.Vec.Iter.{into_iter_items}
use Rattle.run_rounds.specs.declared.seat.Seat.{Seat}
use Rattle.run_script.specs.Seated.{AreSeated, gates_left}
use Rattle.run_script.proofs.seats.sit.Given as goal

abbrev pub invariant-loop-pass : goal.invariant-loop-pass
invariant-loop-pass g l = record {
  can_next : (goal.iterator-loop-pass g).can_next l.pass-iterator;
  is_finite : (goal.iterator-loop-pass g).is_finite l.pass-iterator;
  seats : (more : List (Seat g.row.G.Denot)) → AreSeated l.pass-iterator.rest.items (into_iter_items l.gates) more
      → AreSeated l.fn.passes.items (into_iter_items l.initial.gates) (l.seats.items ++ more);
  left : gates_left l.pass-iterator.rest.items (into_iter_items l.gates) ≡ gates_left l.fn.passes.items (into_iter_items l.initial.gates);
  fits : length l.seats.items + length l.pass-iterator.rest.items ≤ vec_capacity l.seats;
}
