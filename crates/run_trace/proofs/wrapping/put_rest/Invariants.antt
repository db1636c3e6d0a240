use Rattle.std.proofs.Common.{◌≡◌, ◌+◌, ◌≤◌, ◌++◌, length}
use Rattle.std.specs.Vec.{vec_capacity}
use Rattle.std.specs.Vec.Iter.{into_iter_items}
use Rattle.run_trace.proofs.wrapping.put_rest.Given as goal

abbrev pub invariant-loop-gate : goal.invariant-loop-gate
invariant-loop-gate g l = record {
  can_next : (goal.iterator-loop-gate g).can_next l.gate-iterator;
  is_finite : (goal.iterator-loop-gate g).is_finite l.gate-iterator;
  all : l.gates.items ++ into_iter_items l.gate-iterator ≡ l.initial.gates.items ++ into_iter_items l.fn.rest;
  fits : length l.gates.items + length (into_iter_items l.gate-iterator) ≤ vec_capacity l.gates;
}
