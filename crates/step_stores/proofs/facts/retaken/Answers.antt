use Rattle.std.proofs.Common.{ℕ, Bool, ap, sym, ◌∙◌}
use Rattle.step_stores.proofs.Writes.{get-retaken}
use Rattle.step_stores.proofs.facts.retaken.Goals as goal

pub returns : goal.returns
returns c = c.is_since.ensures ∙ ap (λ (f : ℕ → Bool). f c.args.k) (sym (get-retaken c.args.core.now c.args.s c.index-row.result.now c.requires c.index-row.ensures))
