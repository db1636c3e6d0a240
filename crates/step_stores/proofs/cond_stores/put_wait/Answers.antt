use Rattle.step_stores.proofs.Stores.{put_wait_lem}
use Rattle.step_stores.proofs.cond_stores.put_wait.Goals as goal

pub returns : goal.returns
returns c = put_wait_lem c.args.core.now c.args.k c.index_mut-row.result.now c.args.val c.requires c.index_mut-row.ensures.value
