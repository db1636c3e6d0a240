-- What a call that takes locks and gives them all back leaves as it was.
use Rattle.std.specs.Prelude.{◌≡◌, ℕ, true, false, List, None}
use Rattle.task_words.specs.Folds.{task_held, queue_held, wait_held, current_task, task_to_clear, is_claimed}
use Rattle.task_words.specs.Folds.{has_passed, has_retaken, owes_walk}
use Rattle.task_words.specs.Records.{Rec}
use Rattle.task_words.specs.Untouched.{Untouched}

-- no wait queue, works or body was taken or given, and no condition raised; the current task has not left its queue;
-- whom the seat had passed on a walk it has passed still
pub record IsApart (old new : List Rec) : Type 0 where
  pub untouched : Untouched old new
  pub waits : wait_held new ≡ wait_held old
  pub owes : owes_walk new ≡ owes_walk old
  pub retaken : has_retaken new ≡ has_retaken old
  pub passed : (k u : ℕ) → has_passed old k u ≡ true → has_passed new k u ≡ true

-- no lock is held after it that wasn't before, no task is claimed that wasn't, the same task is current, and the same
-- busy word is to clear
pub record Rests (s : ℕ) (old new : List Rec) : Type 0 where
  pub tasks : (u : ℕ) → task_held old u ≡ None → task_held new u ≡ None
  pub queues : ((c : ℕ) → queue_held old c ≡ None) → (c : ℕ) → queue_held new c ≡ None
  pub claimed : (u : ℕ) → is_claimed old u ≡ false → is_claimed new u ≡ false
  pub current : current_task s new ≡ current_task s old
  pub clear : task_to_clear s new ≡ task_to_clear s old
  pub apart : IsApart old new
