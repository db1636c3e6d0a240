-- How a pass stands between two turns of its processor.
use Rattle.std.specs.Prelude.{◌≡◌, ℕ, false}
use Rattle.sched_switch.specs.Standing.{IsSteady}
use Rattle.task_words.specs.Closing.{empty_turn}
use Rattle.task_words.specs.Views.{PassView}
use Rattle.word_steps.specs.Folds.{owes_walk}

-- it holds no lock and no body, has no busy word to clear and nothing claimed; its turn is empty; and it owes no
-- condition a walk. A current task may be there, queued still.
pub record IsAtRest (pass : PassView) : Type 0 where
  pub steady : IsSteady pass
  pub turn : pass.turn ≡ empty_turn pass.shape.tasks
  pub paid : (k : ℕ) → owes_walk pass.trace k ≡ false
