use Rattle.std.proofs.Common.{ℕ, Bool, ap, sym, ◌∙◌}
use Rattle.step_stores.proofs.Writes.{get-own_stored}
use Rattle.step_stores.proofs.facts.own_stored.Goals as goal

pub returns : goal.returns
returns c = c.is_since.ensures ∙ ap (λ (f : ℕ → ℕ → Bool). f c.args.k c.args.t) (sym (get-own_stored c.args.core.now c.args.s c.index-row.result.now c.requires c.index-row.ensures))
