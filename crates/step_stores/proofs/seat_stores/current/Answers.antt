use Rattle.std.proofs.Common.{sym}
use Rattle.step_stores.proofs.Writes.{get-current}
use Rattle.step_stores.proofs.seat_stores.current.Goals as goal

pub returns : goal.returns
returns c = sym (get-current c.args.core.now c.args.s c.index-row.result.now c.requires c.index-row.ensures)
