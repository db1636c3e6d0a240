-- What the error of a read says of the source's count of faults.
use Rattle.std.specs.Prelude.{◌≡◌, ℕ}
use Rattle.wk_run.specs.Ends.{Rose}
use Rattle.wk_run.specs.declared.transfer.ReadError.{ReadError}
use Rattle.wk_run.specs.declared.transfer.ReadError.TheVariants.{Fault, NoMemory}

-- only a fault has raised it
abbrev pub ErrorCause : ℕ → ℕ → ReadError → Type 0
ErrorCause before after Fault = Rose before after
ErrorCause before after NoMemory = after ≡ before
