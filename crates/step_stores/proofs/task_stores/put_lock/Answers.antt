use Rattle.step_stores.proofs.Stores.{put_lock_lem}
use Rattle.step_stores.proofs.task_stores.put_lock.Goals as goal

pub returns : goal.returns
returns c = put_lock_lem c.args.core.now c.args.t c.index_mut-row.result.now c.args.lock c.requires c.index_mut-row.ensures.value
