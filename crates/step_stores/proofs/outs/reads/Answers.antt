use Rattle.std.proofs.Common.{ℕ, sym, ap, ◌∙◌}
use Rattle.core_data.specs.declared.pos.TaskReads.{TaskReads}
use Rattle.step_stores.proofs.Writes.{get-reads}
use Rattle.step_stores.proofs.outs.reads.Goals as goal

pub returns : goal.returns
returns c = c.reads.ensures ∙ ap (λ (f : ℕ → TaskReads). f c.args.t) (sym (get-reads c.args.core.now c.args.s c.index-row.result.now c.requires c.index-row.ensures))
