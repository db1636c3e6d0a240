-- One runner a task, busy words, and bodies.
use Rattle.std.specs.Prelude.{◌≡◌, ◌≢◌, ℕ, ◌⊎◌, ◌<◌, Bool, true, false, Option, Some, None}
use Rattle.core_data.specs.Queue.{Queue}
use Rattle.core_data.specs.Columns.{Columns}
use Rattle.core_kinds.specs.Steps.{dead}

-- A task is busy exactly where the seat of its processor has it as current, or still has its busy word to clear.
pub record OneRunner (on_cpu : ℕ → Bool) (cpu : ℕ → ℕ) (current to_clear : ℕ → Option ℕ) : Type 0 where
  pub current_busy : (s t : ℕ) → current s ≡ Some t → on_cpu t ≡ true
  pub current_here : (s t : ℕ) → current s ≡ Some t → cpu t ≡ s
  pub left_busy : (s t : ℕ) → to_clear s ≡ Some t → on_cpu t ≡ true
  pub left_here : (s t : ℕ) → to_clear s ≡ Some t → cpu t ≡ s
  pub clear_first : (s t : ℕ) → current s ≡ Some t → to_clear s ≡ None
  pub busy_is : (t : ℕ) → on_cpu t ≡ true → (current (cpu t) ≡ Some t) ⊎ (to_clear (cpu t) ≡ Some t)

-- While its busy word is still to be cleared, a task is the `left` of its processor's queue; a current task is its
-- `cur`, but while that seat has its own queue out.
pub record NamedByQueue (current to_clear : ℕ → Option ℕ) (queue : ℕ → Option Queue)
    (queue_out : ℕ → ℕ → Option Queue) : Type 0 where
  pub left_home : (c t : ℕ) (val : Queue) → to_clear c ≡ Some t → queue c ≡ Some val → val.left ≡ Some t
  pub left_out : (s c t : ℕ) (taken : Queue) → to_clear c ≡ Some t → queue_out s c ≡ Some taken → taken.left ≡ Some t
  pub cur_home : (c t : ℕ) (val : Queue) → current c ≡ Some t → queue c ≡ Some val → val.cur ≡ Some t
  pub cur_out : (s c t : ℕ) (taken : Queue) → s ≢ c → current c ≡ Some t → queue_out s c ≡ Some taken
      → taken.cur ≡ Some t

-- A body is home, or out with the seat whose current task it is.
pub record BodiesKept (tasks : ℕ) (body : ℕ → Bool) (body_out current : ℕ → Option ℕ) : Type 0 where
  pub out_current : (s t : ℕ) → body_out s ≡ Some t → current s ≡ Some t
  pub out_away : (s t : ℕ) → body_out s ≡ Some t → body t ≡ false
  pub away_out : (t : ℕ) → t < tasks → body t ≡ false → (s : ℕ) × (body_out s ≡ Some t)

pub record BusyHolds (core : Columns) : Type 0 where
  pub runner : OneRunner core.on_cpu core.cpu core.current_task core.task_to_clear
  pub named : NamedByQueue core.current_task core.task_to_clear core.queue core.queue_held
  pub bodies : BodiesKept core.tasks core.body core.body_held core.current_task
  -- a task dies only once its body has ended
  pub ended : (t : ℕ) → core.state t ≡ dead → core.ended t ≡ true
