-- A seat that may switch.
use Rattle.std.specs.Prelude.{◌≡◌, ◌<◌}
use Rattle.sched_switch.specs.Standing.{IsSteady}
use Rattle.task_words.specs.Views.{PassView, IsOf}
use Rattle.uses_switch.specs.Seated.{IsIdle}
use Rattle.word_table.specs.Views.{WordsView}

-- the pass is that of a processor of the table, and stands between two calls
pub record IsReady (wk : WordsView) (pass : PassView) : Type 0 where
  pub of : IsOf wk pass
  pub processor : pass.seat < wk.shape.cpus
  pub steady : IsSteady pass

-- .. without a current task
pub record IsUnused (wk : WordsView) (pass : PassView) : Type 0 where
  pub of : IsOf wk pass
  pub processor : pass.seat < wk.shape.cpus
  pub idle : IsIdle pass
