use Rattle.std.proofs.Common.{sym, ◌∙◌}
use Rattle.step_stores.proofs.Stores.{take_wait_lem}
use Rattle.step_stores.proofs.Writes.{get-wait}
use Rattle.step_stores.proofs.cond_stores.take_wait.Goals as goal

pub returns-clause-value : goal.returns-clause-value
returns-clause-value c = c.take.ensures.value ∙ sym (get-wait c.args.core.now c.args.k c.index_mut-row.result.now c.requires c.index_mut-row.ensures.value)

pub returns-clause-after : goal.returns-clause-after
returns-clause-after c = take_wait_lem c.args.core.now c.args.k c.index_mut-row.result.now _ c.requires c.index_mut-row.ensures.value c.take.ensures.after
