use Rattle.step_stores.proofs.Stores.{put_wait_lock_lem}
use Rattle.step_stores.proofs.cond_stores.put_wait_lock.Goals as goal

pub returns : goal.returns
returns c = put_wait_lock_lem c.args.core.now c.args.k c.index_mut-row.result.now c.args.lock c.requires c.index_mut-row.ensures.value
