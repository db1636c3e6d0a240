use Rattle.step_stores.proofs.Stores.{hold_queue_lem}
use Rattle.step_stores.proofs.seat_stores.hold_queue.Goals as goal

pub returns : goal.returns
returns c = hold_queue_lem c.args.core.now c.args.s c.index_mut-row.result.now _ c.args.c c.args.val c.requires c.index_mut-row.ensures.value c.in_ok-hold_queue.ensures
