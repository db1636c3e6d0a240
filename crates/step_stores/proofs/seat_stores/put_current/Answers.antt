use Rattle.step_stores.proofs.Stores.{put_current_lem}
use Rattle.step_stores.proofs.seat_stores.put_current.Goals as goal

pub returns : goal.returns
returns c = put_current_lem c.args.core.now c.args.s c.index_mut-row.result.now c.args.t c.requires c.index_mut-row.ensures.value
