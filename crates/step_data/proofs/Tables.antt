-- The table of a core by its rows.
use Rattle.std.proofs.Common.{◌≡◌, List}
use Rattle.handoff_data.specs.declared.shape.Shape.{Shape}
use Rattle.core_data.specs.Columns.{columns, columns_of}
use Rattle.core_data.specs.declared.machine.Core.{Core}
use Rattle.core_data.specs.declared.seat.SeatCore.{SeatCore}
use Rattle.core_data.specs.declared.words.TaskWords.{TaskWords}
use Rattle.core_data.specs.declared.words.CpuWords.{CpuWords}
use Rattle.core_data.specs.declared.words.CondWords.{CondWords}

pub table_rows : (core : Core) (shape : Shape) (tasks : List TaskWords) (cpus : List CpuWords) (conds : List CondWords) (seats : List SeatCore) → core.shape ≡ shape
    → core.tasks.items ≡ tasks → core.cpus.items ≡ cpus → core.conds.items ≡ conds → core.seats.items ≡ seats → columns core ≡ columns_of shape tasks cpus conds seats
unfolding columns
table_rows core shape tasks cpus conds seats n p q r s = λ i. columns_of (n i) (p i) (q i) (r i) (s i)

-- cores with the same rows have the same table
pub table_same : (a b : Core) → a.shape ≡ b.shape → a.tasks.items ≡ b.tasks.items → a.cpus.items ≡ b.cpus.items → a.conds.items ≡ b.conds.items → a.seats.items ≡ b.seats.items → columns a ≡ columns b
unfolding columns
table_same a b n p q r s = λ i. columns_of (n i) (p i) (q i) (r i) (s i)
