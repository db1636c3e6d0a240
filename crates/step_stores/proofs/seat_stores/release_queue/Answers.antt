use Rattle.step_stores.proofs.Stores.{release_queue_lem}
use Rattle.step_stores.proofs.seat_stores.release_queue.Goals as goal

pub returns : goal.returns
returns c = release_queue_lem c.args.core.now c.args.s c.index_mut-row.result.now _ c.args.c c.requires c.index_mut-row.ensures.value c.release_queue.ensures
