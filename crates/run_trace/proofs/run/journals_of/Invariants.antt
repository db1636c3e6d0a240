use Rattle.std.proofs.Common.{◌≡◌, ◌++◌, map}
use Rattle.run_trace.specs.Wrapped.{items_of}
use Rattle.run_trace.proofs.run.journals_of.Given as goal

abbrev pub invariant-loop-entries : goal.invariant-loop-entries
invariant-loop-entries l = record {
  all : l.yielded ++ l.entries-iterator.rest.items ≡ l.fn.lists.items;
  seats : l.seats.items ≡ map items_of l.yielded;
}
