use Rattle.std.proofs.Common.{◌≡◌, ◌≤◌, ◌-◌, ◌++◌, length}
use Rattle.std.specs.Vec.{vec_capacity}
use Rattle.std.specs.Vec.Iter.{into_iter_items}
use Rattle.run_trace.specs.Wrapped.{firsts, gates_left}
use Rattle.run_trace.proofs.wrapping.put_on.Given as goal

abbrev pub invariant-loop : goal.invariant-loop
invariant-loop g l = record {
  kept : l.kept.items ++ firsts (l.count - l.counter) (into_iter_items l.gates) ≡ firsts l.count (into_iter_items l.initial.gates);
  left : gates_left (l.count - l.counter) (into_iter_items l.gates) ≡ gates_left l.count (into_iter_items l.initial.gates);
  many : length l.kept.items ≡ l.counter;
  low : l.counter ≤ l.count;
  room : l.count ≤ vec_capacity l.kept;
}
