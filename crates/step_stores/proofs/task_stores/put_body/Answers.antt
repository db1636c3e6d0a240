use Rattle.step_stores.proofs.Stores.{put_body_lem}
use Rattle.step_stores.proofs.task_stores.put_body.Goals as goal

pub returns : goal.returns
returns c = put_body_lem c.args.core.now c.args.t c.index_mut-row.result.now c.args.ended c.requires c.index_mut-row.ensures.value
