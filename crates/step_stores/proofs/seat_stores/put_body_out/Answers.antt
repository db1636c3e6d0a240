use Rattle.step_stores.proofs.Stores.{put_body_out_lem}
use Rattle.step_stores.proofs.seat_stores.put_body_out.Goals as goal

pub returns : goal.returns
returns c = put_body_out_lem c.args.core.now c.args.s c.index_mut-row.result.now _ c.args.t c.requires c.index_mut-row.ensures.value c.set_body.ensures
