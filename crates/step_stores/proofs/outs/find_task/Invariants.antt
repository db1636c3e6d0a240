use Rattle.std.proofs.Common.{◌≡◌, ◌==◌, Some, None, take}
use Rattle.core_data.specs.Found.{found}
use Rattle.core_data.specs.declared.held.HeldTask.{HeldTask}
use Rattle.step_stores.proofs.outs.find_task.Given as goal

abbrev pub invariant-loop-h : goal.invariant-loop-h
invariant-loop-h l = l.known ≡ found (λ (h : HeldTask). l.t == h.t) (λ h. Some h.val) None (take l.h-index l.held)
