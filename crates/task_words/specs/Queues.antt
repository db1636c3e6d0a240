-- When a seat that has a queue's lock may queue a task there, or take one off to move it.
use Rattle.std.specs.Prelude.{◌≡◌, ◌≢◌, ℕ, ◌⊎◌, true, false, List, Some, IsSome, IfSome}
use Rattle.core_data.specs.Queue.{times_in}
use Rattle.word_steps.specs.Folds.{task_held, queue_held, is_claimed, saw_clear, saw_idle, is_moving, number_read}
use Rattle.word_steps.specs.Folds.{last_reads, has_added, has_dropped, current_task}
use Rattle.word_steps.specs.Records.{Rec}

-- the seat has the locks of the task t and of the queue c, whose processor is the task's, as it last read or stored it;
-- the task is new, or it has claimed it and it runs nowhere, or it moves it
pub record MayQueueHere (trace : List Rec) (c t : ℕ) : Type 0 where
  pub locked : IsSome (task_held trace t)
  pub read : (last_reads trace t).cpu ≡ Some c
  pub queue : IsSome (queue_held trace c)
  pub ready : (number_read trace t ≡ Some 0) ⊎ (((is_claimed trace t ≡ true) × (saw_clear trace t ≡ true))
      ⊎ (is_moving trace t ≡ true))

-- the seat s has the locks of the task t and of the queue c, whose processor is the task's, as it last read or stored
-- it; t waited there as the lock was taken, was seen to run nowhere since, and isn't the seat's own current task
pub record MayMoveHere (s : ℕ) (trace : List Rec) (c t : ℕ) : Type 0 where
  pub locked : IsSome (task_held trace t)
  pub read : (last_reads trace t).cpu ≡ Some c
  pub queue : IsSome (queue_held trace c)
  pub waiting : IfSome (queue_held trace c) (λ taken. times_in taken.waiting t ≡ 1)
  pub unadded : has_added trace c t ≡ false
  pub undropped : has_dropped trace c t ≡ false
  pub idle : saw_idle trace c t ≡ true
  pub other : current_task s trace ≢ Some t
