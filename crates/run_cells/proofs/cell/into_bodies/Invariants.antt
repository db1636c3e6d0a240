use Rattle.std.proofs.Common.{◌≡◌, ◌++◌, map}
use Rattle.run_cells.specs.Ends.{body_of}
use Rattle.run_cells.proofs.cell.into_bodies.Given as goal

abbrev pub invariant-loop-cell : goal.invariant-loop-cell
invariant-loop-cell g l = record {
  can_next : (goal.iterator-loop-cell g).can_next l.cell-iterator;
  is_finite : (goal.iterator-loop-cell g).is_finite l.cell-iterator;
  all : l.yielded ++ l.cell-iterator.rest.items ≡ l.fn.cells.items;
  bodies : l.bodies.items ≡ map body_of l.yielded;
}
