use Rattle.step_stores.proofs.Stores.{put_cond_lem}
use Rattle.step_stores.proofs.cond_stores.put_cond.Goals as goal

pub returns : goal.returns
returns c = put_cond_lem c.args.core.now c.args.k c.index_mut-row.result.now c.args.cond c.requires c.index_mut-row.ensures.value
