-- A table has a row for each task, each processor and each condition.
use Rattle.std.specs.Prelude.{◌≤◌, ◌+◌, max}
use Rattle.std.proofs.Math.Nat.{le-max_left, le-max_right, le_trans}
use Rattle.handoff_data.specs.declared.shape.Shape.{Shape}
use Rattle.word_table.specs.Layout.{rows_of}

pub tasks_rows : (shape : Shape) → shape.tasks ≤ rows_of shape
tasks_rows shape =
    le_trans (le-max_left shape.tasks shape.conds)
    (le-max_left (max shape.tasks shape.conds) (shape.cpus + shape.agents))

pub conds_rows : (shape : Shape) → shape.conds ≤ rows_of shape
conds_rows shape =
    le_trans (le-max_right shape.tasks shape.conds)
    (le-max_left (max shape.tasks shape.conds) (shape.cpus + shape.agents))
