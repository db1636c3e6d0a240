use Rattle.std.proofs.Common.{◌≡◌, take}
use Rattle.core_data.specs.Columns.{columns}
use Rattle.core_law.specs.Runs.{Ran}
use Rattle.handoff_core.proofs.run.law_run.Given as goal

abbrev pub invariant-loop-event : goal.invariant-loop-event
invariant-loop-event l = record {
  taken : l.taken ≡ l.event-index;
  ran : Ran (columns l.fn.core) (take l.event-index l.events) (columns l.core);
}
