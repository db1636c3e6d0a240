use Rattle.std.proofs.Common.{ℕ, Option, Some, None, ◌==◌, sym, ap, ◌∙◌}
use Rattle.core_data.specs.Found.{found}
use Rattle.core_data.specs.declared.held.HeldTask.{HeldTask}
use Rattle.core_data.specs.declared.values.TaskVal.{TaskVal}
use Rattle.step_stores.proofs.Writes.{get-task_out}
use Rattle.step_stores.proofs.outs.task_out.Goals as goal

pub returns : goal.returns
returns c =
    c.find_task.ensures
    ∙ ap (λ xs. found (λ (h : HeldTask). c.args.t == h.t) (λ h. Some h.val) None xs) c.tasks.ensures
    ∙ ap (λ (f : ℕ → Option (TaskVal)). f c.args.t) (sym (get-task_out c.args.core.now c.args.s c.index-row.result.now c.requires c.index-row.ensures))
