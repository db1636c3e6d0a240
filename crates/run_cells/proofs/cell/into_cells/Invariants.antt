use Rattle.std.proofs.Common.{◌≡◌, ◌++◌, map}
use Rattle.run_cells.specs.Ends.{body_of}
use Rattle.run_cells.proofs.cell.into_cells.Given as goal

abbrev pub invariant-loop-body : goal.invariant-loop-body
invariant-loop-body g l = record {
  can_next : (goal.iterator-loop-body g).can_next l.body-iterator;
  is_finite : (goal.iterator-loop-body g).is_finite l.body-iterator;
  all : l.yielded ++ l.body-iterator.rest.items ≡ l.fn.bodies.items;
  bodies : map body_of l.cells.items ≡ l.yielded;
}
