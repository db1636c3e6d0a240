-- A seat that has the lock of a new task.
use Rattle.std.specs.Prelude.{◌≡◌, ℕ, List, Some, None, false}
use Rattle.task_words.specs.Folds.{task_held, queue_held, number_read, last_reads, is_claimed, is_moving}
use Rattle.task_words.specs.Records.{Rec}
use Rattle.task_words.specs.TaskVal.{TaskVal}

-- it took v under the lock of t, has read that t is new and on the processor c, and has no queue's lock
pub record IsPlacing (t c : ℕ) (v : TaskVal) (trace : List Rec) : Type 0 where
  pub held : task_held trace t ≡ Some v
  pub never : number_read trace t ≡ Some 0
  pub here : (last_reads trace t).cpu ≡ Some c
  pub unclaimed : is_claimed trace t ≡ false
  pub unmoved : is_moving trace t ≡ false
  pub free : (n : ℕ) → queue_held trace n ≡ None
