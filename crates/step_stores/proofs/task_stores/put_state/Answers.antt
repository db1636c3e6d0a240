use Rattle.step_stores.proofs.Stores.{put_state_lem}
use Rattle.step_stores.proofs.task_stores.put_state.Goals as goal

pub returns : goal.returns
returns c = put_state_lem c.args.core.now c.args.t c.index_mut-row.result.now c.args.state c.requires c.index_mut-row.ensures.value
