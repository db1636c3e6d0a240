-- The lines of each task of a script.
use Rattle.std.specs.Prelude.{ℕ, ◌==◌, List, [], ◌∷◌, ◌++◌, length, map, Bool, Option, Some, None, slice_index_or}
use Rattle.std.specs.Prelude.{slice_set, if◌then◌else◌}
use Rattle.std.specs.List.{enumerate_from, list_any}
use Rattle.task_script.specs.Forest.{reads}
use Rattle.task_script.specs.declared.plan.Plan.{Plan}
use Rattle.task_script.specs.declared.script.TaskDef.{TaskDef}
use Rattle.pipe_tasks.specs.Words.{Line}
use Rattle.pipe_tasks.specs.Plans.{lines_of}

-- ---- tasks that have the work of a caller, of which each means a plan

-- the plan of a task: what its work means, where it has one
abbrev pub meaning_of : List Plan → Option ℕ → Plan → Plan
meaning_of works None p = p
meaning_of works (Some n) p = slice_index_or works n p

abbrev pub plan_by : List Plan → TaskDef → Plan
plan_by works d = meaning_of works d.custom d.plan

abbrev pub meant : List Plan → TaskDef → TaskDef
meant works d = record d { plan = plan_by works d }

-- the tasks of a script as a caller means them who brings works of these plans
abbrev pub meant_tasks : List Plan → List TaskDef → List TaskDef
meant_tasks works tasks = map (meant works) tasks

-- ---- the lines of tasks

-- the lines of the task on the first side and on the second, of the lines of the tasks before; none where no task is
-- read
abbrev pub first_input : List ℕ → List (List Line) → List Line
first_input [] done = []
first_input (t ∷ from) done = slice_index_or done t []

abbrev pub second_input : List ℕ → List (List Line) → List Line
second_input [] done = []
second_input (t ∷ from) done = first_input from done

-- the lines of a task, of the lines of the tasks before
abbrev pub task_lines : TaskDef → List (List Line) → List Line
task_lines d done = lines_of d.plan (first_input d.from done) (second_input d.from done)

-- the lines of each task, after those of the tasks before
abbrev pub lines_after : List (List Line) → List TaskDef → List (List Line)
lines_after done [] = done
lines_after done (d ∷ ds) = lines_after (done ++ task_lines d done ∷ []) ds

-- the lines of each task of a script, in its order
abbrev pub all_lines : List TaskDef → List (List Line)
all_lines tasks = lines_after [] tasks

-- whether a task is one of these
abbrev pub is_among : List ℕ → ℕ → Bool
is_among tasks t = list_any (λ s. s == t) tasks

-- the lines of each task that no other reads, in the order of the script; none in the place of a task that is read
abbrev pub forest_lines : List TaskDef → List (List Line)
forest_lines tasks = map (λ (e : ℕ × List Line). if is_among (reads tasks) e.0 then [] else e.1)
    (enumerate_from 0 (all_lines tasks))

-- the lists after those of these tasks were taken
abbrev pub emptied : List ℕ → List (List Line) → List (List Line)
emptied [] lists = lists
emptied (t ∷ from) lists = emptied from (slice_set lists t [])
