-- How a seat stands between two calls.
use Rattle.std.specs.Prelude.{◌≡◌, ℕ, List, Some, None, true, false}
use Rattle.task_words.specs.Views.{PassView}
use Rattle.word_steps.specs.Folds.{task_held, queue_held, works_held, wait_held, body_held}
use Rattle.word_steps.specs.Folds.{current_task, task_to_clear, is_claimed, stays_queued}
use Rattle.word_steps.specs.Records.{Rec}

-- it has no lock's value out, and no body
pub record HoldsNothing (trace : List Rec) : Type 0 where
  pub tasks : (t : ℕ) → task_held trace t ≡ None
  pub queues : (c : ℕ) → queue_held trace c ≡ None
  pub works : (c : ℕ) → works_held trace c ≡ None
  pub waits : (k : ℕ) → wait_held trace k ≡ None
  pub body : body_held trace ≡ None

-- .. and has claimed no task
pub record IsFree (trace : List Rec) : Type 0 where
  pub nothing : HoldsNothing trace
  pub unclaimed : (t : ℕ) → is_claimed trace t ≡ false

-- .. and has no current task, nor a busy word to clear
pub record IsBetween (pass : PassView) : Type 0 where
  pub free : IsFree pass.trace
  pub idle : current_task pass.seat pass.trace ≡ None
  pub clear : task_to_clear pass.seat pass.trace ≡ None

-- .. or has this current task, on its queue, and no busy word to clear
pub record IsRunning (t : ℕ) (pass : PassView) : Type 0 where
  pub free : IsFree pass.trace
  pub current : current_task pass.seat pass.trace ≡ Some t
  pub stays : stays_queued pass.trace ≡ true
  pub clear : task_to_clear pass.seat pass.trace ≡ None
