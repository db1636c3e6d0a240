use Rattle.step_stores.proofs.Stores.{forget_sleep_lem}
use Rattle.step_stores.proofs.seat_stores.forget_sleep.Goals as goal

pub returns : goal.returns
returns c = forget_sleep_lem c.args.core.now c.args.s c.index_mut-row.result.now _ c.args.t c.requires c.index_mut-row.ensures.value c.forget_sleep.ensures
