-- Giving a queue.
use Rattle.std.specs.Prelude.{◌≡◌, ◌≢◌, ℕ, ◌<◌, ◌==◌, ◌&&◌, ◌⊎◌, ◌+◌, Bool, true, false, Option, Some, None, IsSome}
use Rattle.std.specs.Prelude.{is_none, if◌then◌else◌}
use Rattle.core_data.specs.Queue.{Queue, times_in}
use Rattle.core_data.specs.Columns.{Columns, put, put_at}
use Rattle.core_kinds.specs.Locks.{unseen}
use Rattle.core_kinds.specs.Steps.{IsRunnable}

-- whether an optional number is there and is this one
abbrev pub is_some_of : Option ℕ → ℕ → Bool
is_some_of None k = false
is_some_of (Some j) k = j == k

-- how often a task stands in a queue
abbrev pub times : Queue → ℕ → ℕ
times queue t = times_in queue.waiting t + (if is_some_of queue.cur t then 1 else 0)

-- whether a task is queued on a processor, by its words
abbrev pub is_at : (ℕ → ℕ) → (ℕ → ℕ) → ℕ → ℕ → Bool
is_at on_rq cpu c t = (on_rq t == 1) && (cpu t == c)

-- a queue has each task that is queued there once, and no other
abbrev pub IsQueueOf : (ℕ → ℕ) → (ℕ → ℕ) → ℕ → Queue → Type 0
IsQueueOf on_rq cpu c queue = (t : ℕ) → times queue t ≡ (if is_at on_rq cpu c t then 1 else 0)

-- a task that waits may run; and so may the one that is about to run, where no seat has it as current
abbrev pub IsQueueOfRunnable : Columns → Queue → Type 0
IsQueueOfRunnable core queue =
    ((t : ℕ) → times_in queue.waiting t ≢ 0 → IsRunnable (core.state t))
    × ((t : ℕ) → queue.cur ≡ Some t → IsRunnable (core.state t) ⊎ ((s : ℕ) × (core.current_task s ≡ Some t)))

-- a seat may give its current task up where it has the task's lock, or the task isn't migration-disabled
abbrev pub MayGiveUp : Columns → ℕ → ℕ → Type 0
MayGiveUp core s t = (core.body t ≡ true) × ((core.lock t ≡ Some s) ⊎ (core.count t ≡ 0))

-- what the queue's own seat may do with its current task, and what any other seat must leave
abbrev pub IsSwitch : Columns → ℕ → ℕ → Queue → Type 0
IsSwitch core s c queue =
    (s ≢ c → (taken : Queue) → core.queue_held s c ≡ Some taken → (queue.cur ≡ taken.cur) × (queue.left ≡ taken.left))
    × (s ≡ c → (t : ℕ) → core.current_task s ≡ Some t → (queue.cur ≡ Some t)
    ⊎ ((queue.cur ≡ None) × (queue.left ≡ Some t) × MayGiveUp core s t))
    × (s ≡ c → (t : ℕ) → core.task_to_clear s ≡ Some t → queue.left ≡ Some t)

pub record MayGiveQueue (core : Columns) (s c : ℕ) (queue : Queue) : Type 0 where
  pub seat : s < core.seats
  pub processor : c < core.cpus
  pub locked : core.queue_lock c ≡ Some s
  pub out : IsSome (core.queue_held s c)
  pub fits : IsQueueOf core.on_rq core.cpu c queue
  pub runnable : IsQueueOfRunnable core queue
  pub switch : IsSwitch core s c queue
  pub left : (t : ℕ) → queue.left ≡ Some t → t < core.tasks

-- by giving its own queue with no task in `cur` a seat gives its current task up
abbrev pub gives_up : ℕ → ℕ → Queue → Bool
gives_up s c queue = (s == c) && is_none queue.cur

abbrev pub give_up_if : Bool → Columns → ℕ → Columns
give_up_if true core s =
    record core {
      current_task = put core.current_task s None;
      task_to_clear = put core.task_to_clear s (if is_none (core.current_task s) then core.task_to_clear s
          else core.current_task s);
    }
give_up_if false core s = core

abbrev pub give_queue : Columns → ℕ → ℕ → Queue → Columns
give_queue core s c queue =
    unseen (give_up_if (gives_up s c queue) (record core {
      queue_lock = put core.queue_lock c None;
      queue = put core.queue c (Some queue);
      queue_held = put_at core.queue_held s c None;
    }) s) s c
