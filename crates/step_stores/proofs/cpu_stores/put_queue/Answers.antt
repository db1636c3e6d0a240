use Rattle.step_stores.proofs.Stores.{put_queue_lem}
use Rattle.step_stores.proofs.cpu_stores.put_queue.Goals as goal

pub returns : goal.returns
returns c = put_queue_lem c.args.core.now c.args.c c.index_mut-row.result.now c.args.val c.requires c.index_mut-row.ensures.value
