use Rattle.std.proofs.Common.{◌≡◌, ℕ, ◌<◌, Some}
use Rattle.std.specs.Prelude.{slice_get}
use Rattle.core_data.specs.Columns.{columns}
use Rattle.core_gives.specs.Fits.{IsHere}
use Rattle.step_gives.proofs.fits.are_here.Given as goal

abbrev pub invariant-loop-i : goal.invariant-loop-i
invariant-loop-i l = (i t : ℕ) → i < l.i → slice_get l.queue.waiting i ≡ Some t → IsHere (columns l.core) l.c t
