use Rattle.std.proofs.Common.{sym, ◌∙◌}
use Rattle.step_stores.proofs.Writes.{get-level_known}
use Rattle.step_stores.proofs.outs.level_known.Goals as goal

pub returns : goal.returns
returns c = c.level_known.ensures ∙ sym (get-level_known c.args.core.now c.args.s c.index-row.result.now c.requires c.index-row.ensures)
