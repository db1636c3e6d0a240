use Rattle.step_stores.proofs.Stores.{put_rq_lem}
use Rattle.step_stores.proofs.task_stores.put_rq.Goals as goal

pub returns : goal.returns
returns c = put_rq_lem c.args.core.now c.args.t c.index_mut-row.result.now c.args.on_rq c.args.changes c.requires c.index_mut-row.ensures.value
