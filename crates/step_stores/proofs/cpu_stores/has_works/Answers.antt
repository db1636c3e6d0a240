use Rattle.std.proofs.Common.{sym, ap, ◌∙◌}
use Rattle.std.specs.Prelude.{is_some}
use Rattle.step_stores.proofs.Writes.{get-works}
use Rattle.step_stores.proofs.cpu_stores.has_works.Goals as goal

pub returns : goal.returns
returns c = c.is_some.ensures ∙ ap is_some (sym (get-works c.args.core.now c.args.c c.index-row.result.now c.requires c.index-row.ensures))
