-- How a waker claims a task that is off every queue, and queues it.
use Rattle.std.specs.Prelude.{◌≡◌, ℕ, ◌+◌, ◌<◌, ◌∷◌, [], true, false, List, Option, Some, None, ◌↔◌}
use Rattle.handoff_data.specs.Mask.{HasCpu}
use Rattle.handoff_data.specs.declared.entry.Entry.TheVariants as entry
use Rattle.handoff_data.specs.declared.mask.CpuMask.{CpuMask}
use Rattle.handoff_data.specs.declared.shape.Shape.{Shape}
use Rattle.place_pick.specs.Placement.{IsPlaced}
use Rattle.run_queue.specs.Queueing.{pushed}
use Rattle.task_words.specs.Folds.{is_claimed, saw_clear}
use Rattle.task_words.specs.Queue.{Queue}
use Rattle.task_words.specs.Records.{Rec, Took, Gave, Queued, Claimed, MadeRunnable, LoadedBusy}
use Rattle.task_words.specs.TaskVal.{TaskVal}
use Rattle.task_words.specs.Val.TheVariants as val
use Rattle.task_words.specs.Views.{PassView, logged}

-- the busy word of t was read as set again and again, newest first; these were its numbers
abbrev pub busy_reads : ℕ → List ℕ → List Rec → List Rec
busy_reads t [] trace = trace
busy_reads t (n ∷ ns) trace = LoadedBusy t true n ∷ busy_reads t ns trace

-- .. until it was clear
abbrev pub awaited_clear : ℕ → ℕ → List ℕ → List Rec → List Rec
awaited_clear t n waits trace = LoadedBusy t false n ∷ busy_reads t waits trace

pub record IsAwaitedClear (t n : ℕ) (old new : List Rec) : Type 0 where
  pub waits : List ℕ
  pub did : new ≡ awaited_clear t n waits old

-- TASK_WAKING was stored for t after m changes, and then its busy word was clear
pub record IsTaken (t m : ℕ) (old new : PassView) : Type 0 where
  pub n : ℕ
  pub waits : List ℕ
  pub did : new.trace ≡ awaited_clear t n waits (Claimed t m ∷ old.trace)
  pub turn : new.turn ≡ logged (entry.Wake t m) old.turn
  pub claimed : is_claimed new.trace t ≡ true
  pub clear : saw_clear new.trace t ≡ true

-- the allowed pointer of a task: the one processor that it is narrowed to, which is below 16, and else its mask
pub record IsPointer (task : TaskVal) (pointer : CpuMask) : Type 0 where
  pub narrowed : (c : ℕ) → task.narrowed ≡ Some c → (k : ℕ) → HasCpu pointer k ↔ ((k ≡ c) × (c < 16))
  pub whole : task.narrowed ≡ None → pointer ≡ task.mask

-- the task is put on c: every processor is active, and it was last woken on `wake_cpu`. Where none is allowed, c is
-- what the widened mask gives.
pub record IsChosen (task : TaskVal) (shape : Shape) (c : ℕ) : Type 0 where
  pub pointer : CpuMask
  pub all : CpuMask
  pub widened : Option CpuMask
  pub is_pointer : IsPointer task pointer
  pub is_all : (k : ℕ) → HasCpu all k ↔ (k < shape.cpus)
  pub placed : IsPlaced task.wake_cpu pointer false all all all c widened

-- t was put at the back of the queue of c under its lock, and TASK_RUNNING stored there
abbrev pub queued_woken : ℕ → ℕ → ℕ → Queue → List Rec → List Rec
queued_woken t c m queue trace =
    Gave c (val.Queue queue) (val.Queue (pushed t queue)) ∷ MadeRunnable t ∷ Queued t c 0 m ∷ Took c (val.Queue queue)
    ∷ trace

pub record IsQueuedWoken (t c m : ℕ) (old new : PassView) : Type 0 where
  pub queue : Queue
  pub did : new.trace ≡ queued_woken t c m queue old.trace
  pub turn : new.turn ≡ logged (entry.Enq t (m + 1) c false) old.turn
