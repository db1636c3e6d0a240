use Rattle.std.proofs.Common.{◌<◌, ◌==◌, Some, None, length, arith}
use Rattle.step_data.proofs.FoundLemmas.{found_item}
use Rattle.core_data.specs.declared.held.HeldWait.{HeldWait}
use Rattle.step_stores.proofs.outs.find_wait.Goals as goal

pub loop-h-preserved : goal.loop-h-preserved
loop-h-preserved c =
    let lt : c.loop-h.h-index < length c.args.held.now = omega arith in
    found_item (λ (h : HeldWait). c.args.k == h.k) (λ h. Some h.val) None c.args.held.now c.loop-h.h-index c.h-item.result _ _ lt c.h-item.is c.newer_wait-known.ensures c.loop-h.invariant
