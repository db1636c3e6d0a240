use Rattle.std.proofs.Common.{ℕ, sym, subst}
use Rattle.task_words.proofs.states.claim_task.Goals as goal
use Rattle.task_words.specs.Views.{PassView}
use Rattle.word_rule.specs.May.{MayClaimWord}

pub store-requires-clause-may : goal.store-requires-clause-may
store-requires-clause-may g c κs within = subst (λ (p : PassView). (x : ℕ) → MayClaimWord p.seat p.trace c.args.t x 0x200) (sym c.pass.view_is) c.requires.may
