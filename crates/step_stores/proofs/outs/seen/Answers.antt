use Rattle.std.proofs.Common.{sym, ◌∙◌}
use Rattle.step_stores.proofs.Writes.{get-seen}
use Rattle.step_stores.proofs.outs.seen.Goals as goal

pub returns : goal.returns
returns c = c.seen.ensures ∙ sym (get-seen c.args.core.now c.args.s c.index-row.result.now c.requires c.index-row.ensures)
