use Rattle.step_stores.proofs.Stores.{hold_task_lem}
use Rattle.step_stores.proofs.seat_stores.hold_task.Goals as goal

pub returns : goal.returns
returns c = hold_task_lem c.args.core.now c.args.s c.index_mut-row.result.now _ c.args.t c.args.val c.requires c.index_mut-row.ensures.value c.in_ok-hold_task.ensures
