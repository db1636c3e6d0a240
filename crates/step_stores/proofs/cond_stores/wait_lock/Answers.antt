use Rattle.std.proofs.Common.{sym}
use Rattle.step_stores.proofs.Writes.{get-wait_lock}
use Rattle.step_stores.proofs.cond_stores.wait_lock.Goals as goal

pub returns : goal.returns
returns c = sym (get-wait_lock c.args.core.now c.args.k c.index-row.result.now c.requires c.index-row.ensures)
