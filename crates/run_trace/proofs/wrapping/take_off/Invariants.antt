use Rattle.std.proofs.Common.{◌≡◌, ◌+◌, ◌≤◌, ◌++◌, All, length, map}
use Rattle.std.specs.Vec.{vec_capacity}
use Rattle.run_trace.specs.Keeping.{Follows}
use Rattle.run_trace.specs.Wrapped.{gates_in, entries_of, items_of}
use Rattle.run_trace.proofs.wrapping.take_off.Given as goal

abbrev pub invariant-loop-one : goal.invariant-loop-one
invariant-loop-one g l = record {
  can_next : (goal.iterator-loop-one g).can_next l.one-iterator;
  is_finite : (goal.iterator-loop-one g).is_finite l.one-iterator;
  lists : map items_of l.lists.items ++ map entries_of l.one-iterator.rest.items ≡ map entries_of l.fn.kept.items;
  gates : l.gates.items ++ gates_in l.one-iterator.rest.items ≡ gates_in l.fn.kept.items;
  follows : All (Follows g.G.Gate.told) l.one-iterator.rest.items → All (Follows g.G.Gate.told) l.fn.kept.items;
  lists_fit : length l.lists.items + length l.one-iterator.rest.items ≤ vec_capacity l.lists;
  gates_fit : length l.gates.items + length (gates_in l.one-iterator.rest.items) ≤ vec_capacity l.gates;
  capacity : vec_capacity l.gates ≡ vec_capacity l.initial.gates;
}
