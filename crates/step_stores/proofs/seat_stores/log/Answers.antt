use Rattle.step_stores.proofs.Stores.{log_lem}
use Rattle.step_stores.proofs.seat_stores.log.Goals as goal

pub returns : goal.returns
returns c = log_lem c.args.core.now c.args.s c.index_mut-row.result.now _ c.args.entry c.requires c.index_mut-row.ensures.value c.in_ok-add_entry.ensures
