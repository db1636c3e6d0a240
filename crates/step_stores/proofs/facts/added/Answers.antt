use Rattle.std.proofs.Common.{ℕ, Bool, ap, sym, ◌∙◌}
use Rattle.step_stores.proofs.Writes.{get-added}
use Rattle.step_stores.proofs.facts.added.Goals as goal

pub returns : goal.returns
returns c = c.is_since.ensures ∙ ap (λ (f : ℕ → ℕ → Bool). f c.args.c c.args.t) (sym (get-added c.args.core.now c.args.s c.index-row.result.now c.requires c.index-row.ensures))
