use Rattle.std.proofs.Common.{sym, ◌∙◌}
use Rattle.step_stores.proofs.Stores.{take_queue_lem}
use Rattle.step_stores.proofs.Writes.{get-queue}
use Rattle.step_stores.proofs.cpu_stores.take_queue.Goals as goal

pub returns-clause-value : goal.returns-clause-value
returns-clause-value c = c.take.ensures.value ∙ sym (get-queue c.args.core.now c.args.c c.index_mut-row.result.now c.requires c.index_mut-row.ensures.value)

pub returns-clause-after : goal.returns-clause-after
returns-clause-after c = take_queue_lem c.args.core.now c.args.c c.index_mut-row.result.now _ c.requires c.index_mut-row.ensures.value c.take.ensures.after
