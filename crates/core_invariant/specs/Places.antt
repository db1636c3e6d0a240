-- What a task's place says of its words.
use Rattle.std.specs.Prelude.{◌≡◌, ◌≢◌, ℕ, ◌<◌, ◌≤◌, ◌⊎◌, ◌↔◌, Bool, true, false, Option, Some, None}
use Rattle.core_data.specs.Columns.{Columns}
use Rattle.core_data.specs.declared.values.TaskVal.{TaskVal}
use Rattle.core_kinds.specs.Steps.{waking, dead, fresh, is_sleep, IsRunnable}
use Rattle.handoff_data.specs.Mask.{HasCpu}
use Rattle.handoff_data.specs.declared.state.State.{State}

-- a task that was never queued
pub record NewTasks (on_rq changes : ℕ → ℕ) (on_cpu : ℕ → Bool) (count : ℕ → ℕ) : Type 0 where
  pub off : (t : ℕ) → changes t ≡ 0 → on_rq t ≡ 0
  pub idle : (t : ℕ) → changes t ≡ 0 → on_cpu t ≡ false
  pub level : (t : ℕ) → changes t ≡ 0 → count t ≡ 0

-- its state is TASK_NEW, unless the holder of its lock has stored it
pub record NewStates (tasks : ℕ) (state : ℕ → State) (changes : ℕ → ℕ) (lock : ℕ → Option ℕ)
    (stored : ℕ → ℕ → Bool) : Type 0 where
  pub free : (t : ℕ) → t < tasks → changes t ≡ 0 → lock t ≡ None → state t ≡ fresh
  pub held : (t s : ℕ) → t < tasks → changes t ≡ 0 → lock t ≡ Some s → stored s t ≡ false → state t ≡ fresh
  pub runnable : (t : ℕ) → changes t ≡ 0 → IsRunnable (state t)

-- the opening value of a task's lock
pub record IsOpeningVal (cpus : ℕ) (val : TaskVal) : Type 0 where
  pub mask : (c : ℕ) → HasCpu val.mask c ↔ (c < cpus)
  pub pending : val.pending ≡ None
  pub stop_queued : val.stop_queued ≡ false

-- .. which a task has until it is queued
pub record NewValues (cpus : ℕ) (changes : ℕ → ℕ) (val : ℕ → Option TaskVal)
    (task_out : ℕ → ℕ → Option TaskVal) : Type 0 where
  pub at_home : (t : ℕ) (v : TaskVal) → changes t ≡ 0 → val t ≡ Some v → IsOpeningVal cpus v
  pub taken : (s t : ℕ) (v : TaskVal) → changes t ≡ 0 → task_out s t ≡ Some v → IsOpeningVal cpus v

-- a task off its queue sleeps, or is dead, or is on its way to a queue by the seat that has its lock
abbrev pub OffTasks : (ℕ → State) → (ℕ → ℕ) → (ℕ → ℕ) → (ℕ → Option ℕ) → (ℕ → ℕ → Bool) → Type 0
OffTasks state on_rq changes lock claimed =
    (t : ℕ) → changes t ≢ 0 → on_rq t ≡ 0
    → (is_sleep (state t) ≡ true)
    ⊎ ((state t ≡ dead) ⊎ ((state t ≡ waking) × ((s : ℕ) × (lock t ≡ Some s) × (claimed s t ≡ true))))

-- a queued task that a seat has as current runs, sleeps soon, or dies soon
abbrev pub CurrentTasks : (ℕ → State) → (ℕ → ℕ) → (ℕ → Option ℕ) → Type 0
CurrentTasks state on_rq current =
    (s t : ℕ) → current s ≡ Some t → on_rq t ≡ 1 → IsRunnable (state t)
    ⊎ ((is_sleep (state t) ≡ true) ⊎ (state t ≡ dead))

-- one that no seat has as current may run, but for one that was put there under the queue's lock, while that is held
abbrev pub WaitingTasks : (ℕ → State) → (ℕ → ℕ) → (ℕ → ℕ) → (ℕ → Option ℕ) → (ℕ → Option ℕ) → (ℕ → ℕ → ℕ → Bool)
    → Type 0
WaitingTasks state on_rq cpu current queue_lock added =
    (t : ℕ) → on_rq t ≡ 1 → ((s : ℕ) → current s ≢ Some t)
    → IsRunnable (state t)
    ⊎ ((state t ≡ waking) × ((s : ℕ) × (queue_lock (cpu t) ≡ Some s) × (added s (cpu t) t ≡ true)))

-- a task that is moved from one queue to another may run, and the seat that moves it has its lock
pub record MovingTasks (state : ℕ → State) (on_rq : ℕ → ℕ) (on_cpu : ℕ → Bool) (lock : ℕ → Option ℕ) : Type 0 where
  pub runnable : (t : ℕ) → on_rq t ≡ 2 → IsRunnable (state t)
  pub idle : (t : ℕ) → on_rq t ≡ 2 → on_cpu t ≡ false
  pub locked : (t : ℕ) → on_rq t ≡ 2 → (s : ℕ) × (lock t ≡ Some s)

pub record PlacesHold (core : Columns) : Type 0 where
  pub on_rq : (t : ℕ) → core.on_rq t ≤ 2
  pub new : NewTasks core.on_rq core.changes core.on_cpu core.count
  pub new_states : NewStates core.tasks core.state core.changes core.lock core.has_stored
  pub new_values : NewValues core.cpus core.changes core.val core.task_held
  pub off : OffTasks core.state core.on_rq core.changes core.lock core.is_claimed
  pub current : CurrentTasks core.state core.on_rq core.current_task
  pub waiting : WaitingTasks core.state core.on_rq core.cpu core.current_task core.queue_lock core.has_added
  pub moving : MovingTasks core.state core.on_rq core.on_cpu core.lock
