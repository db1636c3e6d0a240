use Rattle.std.proofs.Common.{◌≡◌, ℕ, List, ◌++◌, drop, map}
use Rattle.std.specs.List.{flat_map, zip}
use Rattle.task_script.specs.declared.script.TaskDef.{TaskDef}
use Rattle.wk_run.specs.Named.{report_lines}
use Rattle.wk_run.proofs.report.report_text.Given as goal

-- what is written, and then what the tasks that are left give, is the whole
abbrev pub invariant-loop-task : goal.invariant-loop-task
invariant-loop-task l =
    l.text.items ++ flat_map (λ (task : List ℕ × List (List ℕ)). report_lines l.plain task.0 task.1)
    (zip (map (λ (task : TaskDef). task.name) (drop l.task-index l.tasks)) l.outputs.items)
    ≡ flat_map (λ (task : List ℕ × List (List ℕ)). report_lines l.plain task.0 task.1)
    (zip (map (λ (task : TaskDef). task.name) l.tasks) l.initial.outputs.items)
