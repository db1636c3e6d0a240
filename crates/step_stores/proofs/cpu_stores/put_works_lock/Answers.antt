use Rattle.step_stores.proofs.Stores.{put_works_lock_lem}
use Rattle.step_stores.proofs.cpu_stores.put_works_lock.Goals as goal

pub returns : goal.returns
returns c = put_works_lock_lem c.args.core.now c.args.c c.index_mut-row.result.now c.args.lock c.requires c.index_mut-row.ensures.value
