use Rattle.std.proofs.Common.{sym, ◌∙◌}
use Rattle.step_stores.proofs.Writes.{get-body_out}
use Rattle.step_stores.proofs.outs.body_out.Goals as goal

pub returns : goal.returns
returns c = c.body.ensures ∙ sym (get-body_out c.args.core.now c.args.s c.index-row.result.now c.requires c.index-row.ensures)
