-- The conditions of a run: 2t counts the items that the task t put out, 2t + 1 those that were taken from it.
use Rattle.std.specs.Prelude.{◌≡◌, ◌<◌, ◌*◌, ℕ, zero, suc, List, Option, IfSome, length}
use Rattle.std.specs.List.{All}
use Rattle.handoff_data.specs.declared.shape.Shape.{Shape}
use Rattle.pipe_bodies.specs.Nets.{others, first_of}
use Rattle.run_cells.specs.declared.net_map.Inputs.{Inputs}
use Rattle.task_script.specs.declared.script.TaskDef.{TaskDef}

-- the tasks that a task reads, by side
abbrev pub inputs_of : TaskDef → Inputs
inputs_of d = record { left = first_of d.from; right = first_of (others d.from) }

abbrev pub side_of : Inputs → ℕ → Option ℕ
side_of inputs zero = inputs.left
side_of inputs (suc n) = inputs.right

-- the tasks that a task reads are among so many
pub record AreWithin (tasks : ℕ) (inputs : Inputs) : Type 0 where
  pub left : IfSome inputs.left (λ x. x < tasks)
  pub right : IfSome inputs.right (λ x. x < tasks)

-- the map is of a table of this shape: one place a task, whose inputs are tasks, and two conditions a task
pub record IsNetMap (inputs : List Inputs) (shape : Shape) : Type 0 where
  pub count : length inputs ≡ shape.tasks
  pub conds : shape.conds ≡ 2 * shape.tasks
  pub within : All (AreWithin shape.tasks) inputs
