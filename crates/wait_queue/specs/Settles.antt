-- What a call on a wait queue asks of its seat, and what it leaves as it was.
use Rattle.std.specs.Prelude.{◌≡◌, ℕ, true, false, List, Some, None}
use Rattle.task_words.specs.Folds.{task_held, queue_held, wait_held, current_task, stays_queued, task_to_clear}
use Rattle.task_words.specs.Folds.{is_claimed, has_passed, has_retaken, owes_walk}
use Rattle.task_words.specs.Records.{Rec}
use Rattle.task_words.specs.Untouched.{Untouched}
use Rattle.task_words.specs.WaitEntry.{WaitEntry}

-- the seat may wake any task: it holds no task's lock and no queue's, has claimed no task, has no busy word to clear,
-- which a wake-up might wait for, and its current task, if there is one, has not left its queue
pub record IsFree (s : ℕ) (trace : List Rec) : Type 0 where
  pub tasks : (t : ℕ) → task_held trace t ≡ None
  pub queues : (c : ℕ) → queue_held trace c ≡ None
  pub claimed : (t : ℕ) → is_claimed trace t ≡ false
  pub cleared : task_to_clear s trace ≡ None
  pub stays : (t : ℕ) → current_task s trace ≡ Some t → stays_queued trace ≡ true

-- what the seat knows of a wait queue that it holds: its entries as they were taken, whom it has passed since, and that
-- it took the lock after it last raised the condition
pub record IsHeldStill (old new : List Rec) (k : ℕ) (v : List WaitEntry) : Type 0 where
  pub held : wait_held new k ≡ Some v
  pub passed : (t : ℕ) → has_passed old k t ≡ true → has_passed new k t ≡ true
  pub retaken : has_retaken new k ≡ has_retaken old k

-- no lock is held after it that wasn't before, no task is claimed that wasn't, no condition is owed a walk that wasn't,
-- what is known of a wait queue that is held stays, the same task is current, and the same busy word is to clear
pub record Settles (s : ℕ) (old new : List Rec) : Type 0 where
  pub tasks : (t : ℕ) → task_held old t ≡ None → task_held new t ≡ None
  pub queues : ((c : ℕ) → queue_held old c ≡ None) → (c : ℕ) → queue_held new c ≡ None
  pub waits : (k : ℕ) → wait_held old k ≡ None → wait_held new k ≡ None
  pub claimed : (t : ℕ) → is_claimed old t ≡ false → is_claimed new t ≡ false
  pub owes : (k : ℕ) → owes_walk old k ≡ false → owes_walk new k ≡ false
  pub still : (k : ℕ) (v : List WaitEntry) → wait_held old k ≡ Some v → IsHeldStill old new k v
  pub untouched : Untouched old new
  pub current : current_task s new ≡ current_task s old
  pub clear : task_to_clear s new ≡ task_to_clear s old
