use Rattle.std.proofs.Common.{ℕ, Bool, ap, sym, ◌∙◌}
use Rattle.step_stores.proofs.Writes.{get-claimed}
use Rattle.step_stores.proofs.facts.claimed.Goals as goal

pub returns : goal.returns
returns c = c.is_since.ensures ∙ ap (λ (f : ℕ → Bool). f c.args.t) (sym (get-claimed c.args.core.now c.args.s c.index-row.result.now c.requires c.index-row.ensures))
