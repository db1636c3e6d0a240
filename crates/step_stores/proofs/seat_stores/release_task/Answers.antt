use Rattle.step_stores.proofs.Stores.{release_task_lem}
use Rattle.step_stores.proofs.seat_stores.release_task.Goals as goal

pub returns : goal.returns
returns c = release_task_lem c.args.core.now c.args.s c.index_mut-row.result.now _ c.args.t c.requires c.index_mut-row.ensures.value c.release_task.ensures
