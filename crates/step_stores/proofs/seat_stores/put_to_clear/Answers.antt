use Rattle.step_stores.proofs.Stores.{put_to_clear_lem}
use Rattle.step_stores.proofs.seat_stores.put_to_clear.Goals as goal

pub returns : goal.returns
returns c = put_to_clear_lem c.args.core.now c.args.s c.index_mut-row.result.now _ c.args.t c.requires c.index_mut-row.ensures.value c.set_to_clear.ensures
