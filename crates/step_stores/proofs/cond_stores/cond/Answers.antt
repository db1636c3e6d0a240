use Rattle.std.proofs.Common.{sym}
use Rattle.step_stores.proofs.Writes.{get-cond}
use Rattle.step_stores.proofs.cond_stores.cond.Goals as goal

pub returns : goal.returns
returns c = sym (get-cond c.args.core.now c.args.k c.index-row.result.now c.requires c.index-row.ensures)
