use Rattle.std.proofs.Common.{◌≡◌, ℕ, ◌<◌, Some, true, false}
use Rattle.std.specs.Prelude.{slice_get}
use Rattle.core_data.specs.Entries.{has_entry}
use Rattle.core_data.specs.Columns.{columns}
use Rattle.core_data.specs.declared.values.WaitEntry.{WaitEntry}
use Rattle.core_gives.specs.Waits.{IsTakenOut}
use Rattle.step_gives.proofs.waits.are_taken_out.Given as goal

abbrev pub invariant-loop-x : goal.invariant-loop-x
invariant-loop-x l = (i : ℕ) (x : WaitEntry) → i < l.x-index → slice_get l.taken i ≡ Some x → (has_entry l.given x ≡ false → IsTakenOut (columns l.core) l.s l.k x)
