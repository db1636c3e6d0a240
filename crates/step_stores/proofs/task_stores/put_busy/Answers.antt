use Rattle.step_stores.proofs.Stores.{put_busy_lem}
use Rattle.step_stores.proofs.task_stores.put_busy.Goals as goal

pub returns : goal.returns
returns c = put_busy_lem c.args.core.now c.args.t c.index_mut-row.result.now c.args.on_cpu c.args.runs c.requires c.index_mut-row.ensures.value
