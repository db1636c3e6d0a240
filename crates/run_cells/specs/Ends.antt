-- Cells and their bodies.
use Rattle.std.specs.Prelude.{◌≡◌, ◌<◌, ℕ, List, map}
use Rattle.handoff_data.specs.History.{History}
use Rattle.handoff_data.specs.Positions.{IsSomewhere}
use Rattle.handoff_data.specs.declared.entry.Entry.TheVariants as entry
use Rattle.pipe_bodies.specs.Bodies.{BodyView, Lasting}
use Rattle.pipe_bodies.specs.Lastings.{lasting_code, lasting_of}
use Rattle.pipe_bodies.specs.Nets.{IsNet, begun_tasks}
use Rattle.run_cells.specs.declared.cell.Cell.{Cell}
use Rattle.task_script.specs.declared.script.TaskDef.{TaskDef}

abbrev pub body_of : {W : Type 0} → Cell W → BodyView
body_of cell = cell.body

-- what the bodies of a table keep for good
abbrev pub kept_of : List (List ℕ) → List Lasting
kept_of lasting = map lasting_of lasting

-- what the bodies of a table keep is what bodies keep that are joined as these tasks say
pub record IsTableOf (tasks : List TaskDef) (lasting : List (List ℕ)) : Type 0 where
  pub keeps : List Lasting
  pub net : IsNet (begun_tasks tasks keeps) keeps
  pub same : lasting ≡ map lasting_code keeps

-- each of so many tasks has its death in one of the journals
abbrev pub AllDied : History → ℕ → Type 0
AllDied j tasks = (t : ℕ) → t < tasks → (m : ℕ) × (c : ℕ) × IsSomewhere j (entry.Die t m c)
