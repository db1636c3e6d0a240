use Rattle.std.proofs.Common.{ℕ, sym, subst}
use Rattle.task_words.proofs.states.make_runnable.Goals as goal
use Rattle.task_words.specs.Views.{PassView}
use Rattle.word_rule.specs.May.{MayMakeRunnableWord}

pub store-requires-clause-may : goal.store-requires-clause-may
store-requires-clause-may g c κs within = subst (λ (p : PassView). (x : ℕ) → MayMakeRunnableWord p.seat p.trace c.args.t x 0) (sym c.pass.view_is) c.requires.may
