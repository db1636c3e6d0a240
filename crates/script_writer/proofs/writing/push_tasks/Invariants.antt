use Rattle.std.proofs.Common.{◌≡◌, ◌++◌, drop}
use Rattle.std.specs.List.{flat_map}
use Rattle.script_writer.specs.Spelling.{spelled_task, text_of}
use Rattle.script_writer.proofs.writing.push_tasks.Given as goal

-- what is written and the tasks that are left are all tasks
abbrev pub invariant-loop-task : goal.invariant-loop-task
invariant-loop-task l =
    l.bytes.items ++ text_of (flat_map (spelled_task l.tasks) (drop l.task-index l.tasks))
    ≡ l.fn.bytes.items ++ text_of (flat_map (spelled_task l.tasks) l.tasks)
