-- The numbers of each sort of lock are below the rows of the table.
use Rattle.std.proofs.Common.{◌≤◌, arith}
use Rattle.handoff_data.specs.declared.shape.Shape.{Shape}
use Rattle.word_rule.specs.Sorts.{Sort, OfTask, OfQueue, OfWorks, OfWait, count_of}
use Rattle.word_table.specs.Layout.{rows_of}

pub count_rows : (sort : Sort) (shape : Shape) → count_of sort shape ≤ rows_of shape
count_rows OfTask shape = omega arith
count_rows OfQueue shape = omega arith
count_rows OfWorks shape = omega arith
count_rows OfWait shape = omega arith

pub tasks_rows : (shape : Shape) → shape.tasks ≤ rows_of shape
tasks_rows shape = count_rows OfTask shape
