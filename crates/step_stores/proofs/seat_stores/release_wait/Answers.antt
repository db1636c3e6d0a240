use Rattle.step_stores.proofs.Stores.{release_wait_lem}
use Rattle.step_stores.proofs.seat_stores.release_wait.Goals as goal

pub returns : goal.returns
returns c = release_wait_lem c.args.core.now c.args.s c.index_mut-row.result.now _ c.args.l c.requires c.index_mut-row.ensures.value c.release_wait.ensures
