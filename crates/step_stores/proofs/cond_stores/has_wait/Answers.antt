use Rattle.std.proofs.Common.{sym, ap, ◌∙◌}
use Rattle.std.specs.Prelude.{is_some}
use Rattle.step_stores.proofs.Writes.{get-wait}
use Rattle.step_stores.proofs.cond_stores.has_wait.Goals as goal

pub returns : goal.returns
returns c = c.is_some.ensures ∙ ap is_some (sym (get-wait c.args.core.now c.args.k c.index-row.result.now c.requires c.index-row.ensures))
