-- The journals of all seats, as contracts see them.
use Rattle.std.specs.Prelude.{ℕ, List}
use Rattle.handoff_data.specs.declared.entry.Entry.{Entry}

-- how many processors and tasks there are, and the journal of each seat, oldest entry first
pub record History : Type 0 where
  pub cpus : ℕ
  pub tasks : ℕ
  pub seats : List (List Entry)
