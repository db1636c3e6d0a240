-- What a seat that stands between two calls has as its current task.
use Rattle.std.specs.Prelude.{◌≡◌, ℕ, Some, None}
use Rattle.sched_switch.specs.Standing.{IsSteady}
use Rattle.task_words.specs.Views.{PassView}
use Rattle.word_steps.specs.Folds.{current_task}

-- none
pub record IsIdle (pass : PassView) : Type 0 where
  pub steady : IsSteady pass
  pub none : current_task pass.seat pass.trace ≡ None

-- this one
pub record IsRunning (t : ℕ) (pass : PassView) : Type 0 where
  pub steady : IsSteady pass
  pub current : current_task pass.seat pass.trace ≡ Some t
