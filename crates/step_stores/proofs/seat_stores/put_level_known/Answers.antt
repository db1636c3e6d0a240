use Rattle.step_stores.proofs.Stores.{put_level_known_lem}
use Rattle.step_stores.proofs.seat_stores.put_level_known.Goals as goal

pub returns : goal.returns
returns c = put_level_known_lem c.args.core.now c.args.s c.index_mut-row.result.now _ c.args.level c.requires c.index_mut-row.ensures.value c.set_level_known.ensures
