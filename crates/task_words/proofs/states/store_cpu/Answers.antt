use Rattle.std.proofs.Common.{ℕ, sym, subst}
use Rattle.task_words.proofs.states.store_cpu.Goals as goal
use Rattle.task_words.specs.Guards.{TaskGuardView}
use Rattle.task_words.specs.Views.{PassView}
use Rattle.word_rule.specs.May.{MayCpuWord}
use Rattle.word_table.specs.Views.{WordsView}

pub store-requires-clause-may : goal.store-requires-clause-may
store-requires-clause-may g c κs within =
    subst (λ (z : WordsView × PassView × TaskGuardView). (x : ℕ) → MayCpuWord z.1.seat z.1.trace z.0.shape z.2.task x c.args.c)
    (λ i. (sym c.wk.view_is i, sym c.pass.view_is i, sym c.task.view_is i)) c.requires.may
