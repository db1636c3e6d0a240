use Rattle.std.proofs.Common.{sym, ◌∙◌}
use Rattle.step_stores.proofs.Writes.{get-to_clear}
use Rattle.step_stores.proofs.outs.to_clear.Goals as goal

pub returns : goal.returns
returns c = c.to_clear.ensures ∙ sym (get-to_clear c.args.core.now c.args.s c.index-row.result.now c.requires c.index-row.ensures)
