use Rattle.step_stores.proofs.Stores.{take_body_lem}
use Rattle.step_stores.proofs.task_stores.take_body.Goals as goal

pub returns : goal.returns
returns c = take_body_lem c.args.core.now c.args.t c.index_mut-row.result.now c.requires c.index_mut-row.ensures.value
