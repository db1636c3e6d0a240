use Rattle.step_stores.proofs.Stores.{hold_works_lem}
use Rattle.step_stores.proofs.seat_stores.hold_works.Goals as goal

pub returns : goal.returns
returns c = hold_works_lem c.args.core.now c.args.s c.index_mut-row.result.now _ c.args.c c.args.val c.requires c.index_mut-row.ensures.value c.in_ok-hold_works.ensures
