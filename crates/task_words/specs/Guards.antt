-- What contracts see of what locks guard, while they are held.
use Rattle.std.specs.Prelude.{◌≡◌, ℕ, List, []}
use Rattle.atomic_table.specs.Seated.{TableId}
use Rattle.core_data.specs.Opening.{no_tasks}
use Rattle.core_data.specs.Queue.{Queue}
use Rattle.core_data.specs.declared.values.TaskVal.{TaskVal}
use Rattle.core_data.specs.declared.values.WaitEntry.{WaitEntry}
use Rattle.core_data.specs.declared.values.WorkItem.{WorkItem}
use Rattle.word_rule.specs.Sorts.{OfTask, OfQueue, OfWorks, OfWait}
use Rattle.word_steps.specs.Opening.{first_val}
use Rattle.word_steps.specs.declared.val.Val.{Val}
use Rattle.word_steps.specs.declared.val.Val.TheVariants as val
use Rattle.word_table.specs.Layout.{slot_of, slot_at}
use Rattle.word_table.specs.Taken.{TakenView}

pub record TaskGuardView : Type 0 where
  pub of : TableId
  pub task : ℕ
  pub val : TaskVal

abbrev pub no_val : TaskVal
no_val = first_val (record { bits = 0 })

abbrev pub task_in : Val → TaskVal
task_in (val.Task v) = v
task_in (val.Queue v) = no_val
task_in (val.Works v) = no_val
task_in (val.Wait v) = no_val

abbrev pub task_guard_view : TakenView → ℕ → TaskGuardView
task_guard_view taken n = record { of = taken.of; task = n; val = task_in taken.val }

pub record IsTaskGuard (taken : TakenView) (n : ℕ) : Type 0 where
  pub place : taken.slot ≡ slot_at n (slot_of OfTask)
  pub value : taken.val ≡ val.Task (task_in taken.val)

pub record QueueGuardView : Type 0 where
  pub of : TableId
  pub cpu : ℕ
  pub val : Queue

abbrev pub queue_in : Val → Queue
queue_in (val.Task v) = no_tasks
queue_in (val.Queue v) = v
queue_in (val.Works v) = no_tasks
queue_in (val.Wait v) = no_tasks

abbrev pub queue_guard_view : TakenView → ℕ → QueueGuardView
queue_guard_view taken n = record { of = taken.of; cpu = n; val = queue_in taken.val }

pub record IsQueueGuard (taken : TakenView) (n : ℕ) : Type 0 where
  pub place : taken.slot ≡ slot_at n (slot_of OfQueue)
  pub value : taken.val ≡ val.Queue (queue_in taken.val)

pub record WorksGuardView : Type 0 where
  pub of : TableId
  pub cpu : ℕ
  pub val : List WorkItem

abbrev pub works_in : Val → List WorkItem
works_in (val.Task v) = []
works_in (val.Queue v) = []
works_in (val.Works v) = v
works_in (val.Wait v) = []

abbrev pub works_guard_view : TakenView → ℕ → WorksGuardView
works_guard_view taken n = record { of = taken.of; cpu = n; val = works_in taken.val }

pub record IsWorksGuard (taken : TakenView) (n : ℕ) : Type 0 where
  pub place : taken.slot ≡ slot_at n (slot_of OfWorks)
  pub value : taken.val ≡ val.Works (works_in taken.val)

pub record WaitGuardView : Type 0 where
  pub of : TableId
  pub cond : ℕ
  pub val : List WaitEntry

abbrev pub wait_in : Val → List WaitEntry
wait_in (val.Task v) = []
wait_in (val.Queue v) = []
wait_in (val.Works v) = []
wait_in (val.Wait v) = v

abbrev pub wait_guard_view : TakenView → ℕ → WaitGuardView
wait_guard_view taken n = record { of = taken.of; cond = n; val = wait_in taken.val }

pub record IsWaitGuard (taken : TakenView) (n : ℕ) : Type 0 where
  pub place : taken.slot ≡ slot_at n (slot_of OfWait)
  pub value : taken.val ≡ val.Wait (wait_in taken.val)
