-- Every task, processor and seat that a word or a lock's value names is of the shape.
use Rattle.std.specs.Prelude.{◌≡◌, ◌≢◌, ℕ, ◌<◌, ◌+◌, true, List, Option, Some}
use Rattle.core_data.specs.Entries.{has_entry}
use Rattle.core_data.specs.Queue.{Queue, times_in}
use Rattle.core_data.specs.Columns.{Columns}
use Rattle.core_data.specs.declared.values.TaskVal.{TaskVal}
use Rattle.core_data.specs.declared.values.WaitEntry.{WaitEntry}
use Rattle.handoff_data.specs.Mask.{HasCpu}
use Rattle.handoff_data.specs.Shape.{IsShape}
use Rattle.handoff_data.specs.declared.shape.Shape.{Shape}

-- there are as many rows as the shape says
pub record IsSized (shape : Shape) (tasks cpus conds seats : ℕ) : Type 0 where
  pub is_shape : IsShape shape
  pub tasks_of : tasks ≡ shape.tasks
  pub cpus_of : cpus ≡ shape.cpus
  pub conds_of : conds ≡ shape.conds
  pub seats_of : seats ≡ shape.cpus + shape.agents

-- what a task's lock guards names
pub record IsTaskVal (cpus seats : ℕ) (val : TaskVal) : Type 0 where
  pub mask : (c : ℕ) → HasCpu val.mask c → c < cpus
  pub narrowed : (c : ℕ) → val.narrowed ≡ Some c → c < cpus
  pub wake_cpu : val.wake_cpu < cpus
  pub pending : (s : ℕ) → val.pending ≡ Some s → s < seats
  pub dest : val.dest < cpus

-- the tasks that a queue names
pub record IsQueueVal (tasks : ℕ) (queue : Queue) : Type 0 where
  pub waiting : (t : ℕ) → times_in queue.waiting t ≢ 0 → t < tasks
  pub cur : (t : ℕ) → queue.cur ≡ Some t → t < tasks
  pub left : (t : ℕ) → queue.left ≡ Some t → t < tasks

-- the tasks that a wait queue names
abbrev pub IsWaitVal : ℕ → List WaitEntry → Type 0
IsWaitVal tasks entries = (x : WaitEntry) → has_entry entries x ≡ true → x.t < tasks

-- P holds of the value of each lock of one kind, at home and, as it was taken, out
pub record HoldsOfValues (A : Type 0) (P : A → Type 0) (home : ℕ → Option A) (out : ℕ → ℕ → Option A) : Type 0 where
  pub at_home : (k : ℕ) (val : A) → home k ≡ Some val → P val
  pub taken : (s k : ℕ) (val : A) → out s k ≡ Some val → P val

pub record ShapesHold (core : Columns) : Type 0 where
  pub sized : IsSized core.shape core.tasks core.cpus core.conds core.seats
  pub queued : (t : ℕ) → core.on_rq t ≢ 0 → t < core.tasks
  pub busy : (t : ℕ) → core.on_cpu t ≡ true → t < core.tasks
  pub cpu : (t : ℕ) → t < core.tasks → core.cpu t < core.cpus
  pub current_seat : (s t : ℕ) → core.current_task s ≡ Some t → s < core.cpus
  pub current : (s t : ℕ) → core.current_task s ≡ Some t → t < core.tasks
  pub to_clear : (s t : ℕ) → core.task_to_clear s ≡ Some t → t < core.tasks
  pub task_values : HoldsOfValues _ (IsTaskVal core.cpus core.seats) core.val core.task_held
  pub queue_values : HoldsOfValues _ (IsQueueVal core.tasks) core.queue core.queue_held
  pub wait_values : HoldsOfValues _ (IsWaitVal core.tasks) core.wait core.wait_held
  -- who owes a walk is a seat, and what it owes is a condition
  pub owes : (s k : ℕ) → core.owes_walk s k ≡ true → (s < core.seats) × (k < core.conds)
