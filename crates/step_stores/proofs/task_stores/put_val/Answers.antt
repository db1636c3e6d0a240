use Rattle.step_stores.proofs.Stores.{put_val_lem}
use Rattle.step_stores.proofs.task_stores.put_val.Goals as goal

pub returns : goal.returns
returns c = put_val_lem c.args.core.now c.args.t c.index_mut-row.result.now c.args.val c.requires c.index_mut-row.ensures.value
