use Rattle.std.proofs.Common.{sym}
use Rattle.step_stores.proofs.Writes.{get-queue_lock}
use Rattle.step_stores.proofs.cpu_stores.queue_lock.Goals as goal

pub returns : goal.returns
returns c = sym (get-queue_lock c.args.core.now c.args.c c.index-row.result.now c.requires c.index-row.ensures)
