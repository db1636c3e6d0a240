use Rattle.std.proofs.Common.{ℕ, Option, Some, None, ◌==◌, sym, ap, ◌∙◌}
use Rattle.core_data.specs.Found.{found}
use Rattle.core_data.specs.Queue.{Queue}
use Rattle.core_data.specs.declared.held.HeldQueue.{HeldQueue}
use Rattle.step_stores.proofs.Writes.{get-queue_out}
use Rattle.step_stores.proofs.outs.queue_out.Goals as goal

pub returns : goal.returns
returns c =
    c.find_queue.ensures
    ∙ ap (λ xs. found (λ (h : HeldQueue). c.args.c == h.c) (λ h. Some h.val) None xs) c.queues.ensures
    ∙ ap (λ (f : ℕ → Option (Queue)). f c.args.c) (sym (get-queue_out c.args.core.now c.args.s c.index-row.result.now c.requires c.index-row.ensures))
