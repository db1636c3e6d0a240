use Rattle.step_stores.proofs.Stores.{put_seen_lem}
use Rattle.step_stores.proofs.seat_stores.put_seen.Goals as goal

pub returns : goal.returns
returns c = put_seen_lem c.args.core.now c.args.s c.index_mut-row.result.now _ c.args.state c.requires c.index_mut-row.ensures.value c.set_seen.ensures
