-- Entries of a wait queue, by their tasks.
use Rattle.std.specs.Prelude.{ℕ, ◌==◌, Bool}
use mathlib.Core.Bool.{not}
use Rattle.core_data.specs.declared.values.WaitEntry.{WaitEntry}

-- an entry of another task
abbrev pub is_of_other : ℕ → WaitEntry → Bool
is_of_other t x = not (x.t == t)
