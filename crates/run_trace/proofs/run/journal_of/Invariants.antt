use Rattle.std.proofs.Common.{◌≡◌, ◌++◌}
use Rattle.run_trace.proofs.run.journal_of.Given as goal

abbrev pub invariant-loop-entry : goal.invariant-loop-entry
invariant-loop-entry l = record {
  all : l.yielded ++ l.entry-iterator.rest.items ≡ l.fn.entries.items;
  journal : l.journal ≡ l.yielded;
}
