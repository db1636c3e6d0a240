use Rattle.std.proofs.Common.{◌<◌, ◌==◌, Some, None, length, arith}
use Rattle.step_data.proofs.FoundLemmas.{found_more}
use Rattle.core_data.specs.declared.held.HeldTask.{HeldTask}
use Rattle.step_stores.proofs.outs.find_task.Goals as goal

pub loop-h-preserved : goal.loop-h-preserved
loop-h-preserved c =
    let lt : c.loop-h.h-index < length c.args.held.now = omega arith in
    found_more (λ (h : HeldTask). c.args.t == h.t) (λ h. Some h.val) None c.args.held.now c.loop-h.h-index _ _ _ lt c.newer_task-known.ensures c.loop-h.invariant
