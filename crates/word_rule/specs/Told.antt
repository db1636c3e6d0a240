-- What the value of a lock is known to be as the seat s takes it, by its own trace.
use Rattle.std.specs.Prelude.{◌≡◌, ◌≢◌, ℕ, ◌<◌, ◌≤◌, ◌⊎◌, true, false, List, Some, None, IsSome, length}
use Rattle.core_data.specs.Entries.{has_entry}
use Rattle.core_data.specs.Queue.{Queue, times_in}
use Rattle.core_data.specs.declared.values.TaskVal.{TaskVal}
use Rattle.core_data.specs.declared.values.WaitEntry.{WaitEntry}
use Rattle.core_gives.specs.Queues.{times}
use Rattle.core_gives.specs.Waits.{has_task, HasEachOnce}
use Rattle.handoff_data.specs.Mask.{HasCpu}
use Rattle.handoff_data.specs.declared.shape.Shape.{Shape}
use Rattle.word_rule.specs.Sorts.{Sort, OfTask, OfQueue, OfWorks, OfWait}
use Rattle.word_steps.specs.Folds.{task_held, current_task, task_to_clear, is_claimed, is_moving, number_read}
use Rattle.word_steps.specs.Records.{Rec}
use Rattle.word_steps.specs.declared.val.Val.{Val}
use Rattle.word_steps.specs.declared.val.Val.TheVariants as val

-- the task may run on some processor, and each that its mask names, or that it is narrowed to, is of the shape
pub record TakenTask (shape : Shape) (v : TaskVal) : Type 0 where
  pub some : (c : ℕ) × HasCpu v.mask c
  pub mask : (c : ℕ) → HasCpu v.mask c → c < shape.cpus
  pub narrowed : (c : ℕ) → v.narrowed ≡ Some c → c < shape.cpus
  pub wake_cpu : v.wake_cpu < shape.cpus
  pub dest : v.dest < shape.cpus

-- the seat knows that a task is on no queue: it has claimed it, it moves it, or it has its lock and knows it as new
abbrev pub IsOff : List Rec → ℕ → Type 0
IsOff trace t = (is_claimed trace t ≡ true)
    ⊎ ((is_moving trace t ≡ true) ⊎ (IsSome (task_held trace t) × (number_read trace t ≡ Some 0)))

-- no task stands there twice, and there is room for one that isn't there; the own queue's `cur` is the seat's current
-- task, and its `left` the one to clear, if any
pub record TakenQueue (shape : Shape) (s : ℕ) (trace : List Rec) (c : ℕ) (v : Queue) : Type 0 where
  pub waiting : (t : ℕ) → times_in v.waiting t ≢ 0 → t < shape.tasks
  pub cur : (t : ℕ) → v.cur ≡ Some t → t < shape.tasks
  pub left : (t : ℕ) → v.left ≡ Some t → t < shape.tasks
  pub once : (t : ℕ) → times v t ≤ 1
  pub room : (t : ℕ) → t < shape.tasks → times_in v.waiting t ≡ 0 → length v.waiting < shape.tasks
  pub off : (t : ℕ) → IsOff trace t → times v t ≡ 0
  pub current : s ≡ c → (t : ℕ) → current_task s trace ≡ Some t → v.cur ≡ Some t
  pub clear : s ≡ c → (t : ℕ) → task_to_clear s trace ≡ Some t → v.left ≡ Some t
  pub first : (t : ℕ) → current_task s trace ≡ Some t → task_to_clear s trace ≡ None

-- no task has two entries there, and there is room for one of a task that has none
pub record TakenWait (shape : Shape) (v : List WaitEntry) : Type 0 where
  pub once : HasEachOnce v
  pub tasks : (x : WaitEntry) → has_entry v x ≡ true → x.t < shape.tasks
  pub room : length v ≤ shape.tasks
  pub space : (t : ℕ) → t < shape.tasks → has_task v t ≡ false → length v < shape.tasks

-- .. of n, by the trace before the take
abbrev pub TakeTold : Shape → ℕ → List Rec → Sort → ℕ → Val → Type 0
TakeTold shape s trace OfTask n (val.Task v) = TakenTask shape v
TakeTold shape s trace OfQueue n (val.Queue v) = TakenQueue shape s trace n v
TakeTold shape s trace OfWorks n (val.Works v) = Unit {0}
TakeTold shape s trace OfWait n (val.Wait v) = TakenWait shape v
TakeTold shape s trace sort n v = ⊥
