use Rattle.std.proofs.Common.{arith}
use Rattle.core_data.proofs.QueueLemmas.{IsOnce-pop, length-pop}
use Rattle.core_data.proofs.queue.QueueVal.pop.Goals as goal

pub invariant_of-self : goal.invariant_of-self
invariant_of-self c = (
  omega arith,
  IsOnce-pop c.pop_front.result c.self.inside.waiting.items c.pop_front.new.self.items c.pop_front.ensures.items c.self.invariant.1,
  length-pop c.pop_front.result c.self.inside.waiting.items c.pop_front.new.self.items c.pop_front.ensures.items c.self.invariant.2,
)
