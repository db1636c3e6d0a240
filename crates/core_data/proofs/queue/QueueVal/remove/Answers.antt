use Rattle.std.proofs.Common.{◌≤◌, arith, subst, sym, length}
use Rattle.core_data.specs.Queue.{IsOnce}
use Rattle.core_data.proofs.QueueLemmas.{IsOnce-filter, length-drop_task}
use Rattle.core_data.proofs.queue.QueueVal.remove.Goals as goal

pub invariant_of-self : goal.invariant_of-self
invariant_of-self c = (
  omega arith,
  subst (λ xs. IsOnce xs) (sym c.drop_task.ensures.rest) (IsOnce-filter c.args.t c.self.inside.waiting.items c.self.invariant.1),
  subst (λ xs. length xs ≤ 200) (sym c.drop_task.ensures.rest) (length-drop_task c.args.t c.self.inside.waiting.items c.self.invariant.2),
)
