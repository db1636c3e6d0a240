-- What each part of a wake-up leaves as it was.
use Rattle.std.specs.Prelude.{◌≡◌, ℕ, List, None}
use Rattle.run_queue.specs.Rests.{IsApart}
use Rattle.task_words.specs.Folds.{task_held, queue_held, current_task, task_to_clear}
use Rattle.task_words.specs.Records.{Rec}

-- no task's lock is taken or given, no queue's lock is held after it where none was before, the same task is current
-- and the same busy word to clear
pub record Keeps (s : ℕ) (old new : List Rec) : Type 0 where
  pub held : task_held new ≡ task_held old
  pub free : ((c : ℕ) → queue_held old c ≡ None) → (c : ℕ) → queue_held new c ≡ None
  pub current : current_task s new ≡ current_task s old
  pub clear : task_to_clear s new ≡ task_to_clear s old
  pub apart : IsApart old new
