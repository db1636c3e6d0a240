-- How a pass stands between two calls.
use Rattle.std.specs.Prelude.{◌≡◌, ℕ, true, false, Some, None}
use Rattle.task_words.specs.Views.{PassView}
use Rattle.word_steps.specs.Folds.{task_held, queue_held, works_held, wait_held, body_held, is_claimed, current_task}
use Rattle.word_steps.specs.Folds.{stays_queued, task_to_clear}

-- it has no lock, no body out and no busy word to clear, has claimed no task, and its current task, if it has one, has
-- not left its queue
pub record IsSteady (pass : PassView) : Type 0 where
  pub tasks : (t : ℕ) → task_held pass.trace t ≡ None
  pub queues : (c : ℕ) → queue_held pass.trace c ≡ None
  pub works : (c : ℕ) → works_held pass.trace c ≡ None
  pub waits : (k : ℕ) → wait_held pass.trace k ≡ None
  pub body : body_held pass.trace ≡ None
  pub claimed : (t : ℕ) → is_claimed pass.trace t ≡ false
  pub clear : task_to_clear pass.seat pass.trace ≡ None
  pub stays : (t : ℕ) → current_task pass.seat pass.trace ≡ Some t → stays_queued pass.trace ≡ true
