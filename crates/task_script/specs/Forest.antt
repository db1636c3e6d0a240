-- Tasks that read earlier tasks, each at most one reader.
use Rattle.std.specs.Prelude.{◌≡◌, ◌≢◌, ◌<◌, ℕ, List, length, All, AllPairs, slice_index_or}
use Rattle.std.specs.List.{flat_map}
use Rattle.task_script.specs.declared.script.TaskDef.{TaskDef}
use Rattle.task_script.specs.Plan.{sides}

-- the tasks that are read, in the order of their readers
abbrev pub reads : List TaskDef → List ℕ
reads tasks = flat_map (λ (d : TaskDef). d.from) tasks

-- every task reads as many tasks as its plan has sides, each of them stands before it, and no task is read twice
pub record IsForest (tasks : List TaskDef) : Type 0 where
  pub inputs : All (λ d. length d.from ≡ sides d.plan) tasks
  pub earlier : (t : ℕ) (d : TaskDef) → t < length tasks → All (λ s. s < t) (slice_index_or tasks t d).from
  pub once : AllPairs (λ s t. s ≢ t) (reads tasks)
