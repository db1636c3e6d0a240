-- Steps on the words as events of the core that they show.
use Rattle.std.specs.Prelude.{◌≡◌, ℕ, suc, ◌+◌, ◌%◌, ◌^◌, List, Some}
use Rattle.core_data.specs.Queue.{Queue}
use Rattle.core_data.specs.Columns.{Columns, put_at}
use Rattle.core_data.specs.declared.values.TaskVal.{TaskVal}
use Rattle.core_data.specs.declared.values.WaitEntry.{WaitEntry}
use Rattle.core_data.specs.declared.values.WorkItem.{WorkItem}
use Rattle.core_kinds.specs.Steps.{waking}
use Rattle.core_law.specs.Steps.{Step}
use Rattle.core_law.specs.declared.step.StepKind.{StepKind}
use Rattle.core_law.specs.declared.step.StepKind.TheVariants as step
use Rattle.handoff_data.specs.declared.shape.Shape.{Shape}
use Rattle.word_steps.specs.Decode.{Homes, core_of, core_after}
use Rattle.word_steps.specs.Records.{Rec, Took, Gave, OutBody, HomeBody, Queued, Dequeued, Moved, SetBusy, ClearedBusy}
use Rattle.word_steps.specs.Records.{StateSet, Claimed, MadeRunnable, LoadedState, LoadedRq, LoadedBusy, LoadedCpu}
use Rattle.word_steps.specs.Records.{LoadedCount, StoredCpu, Bumped, LoadedCond}
use Rattle.word_steps.specs.Words.{LOCK, STATE, RQ, BUSY, CPU, QUEUE_LOCK, WORKS_LOCK, WAIT_LOCK, COND}
use Rattle.word_steps.specs.declared.val.Val.TheVariants as val

-- The record of an event of the seat s in this core: the step with its arguments, and what it found there. Each record
-- is of one kind of step.
abbrev pub IsNoted : Columns → ℕ → StepKind → Rec → Type 0
IsNoted core s (step.TakeTask t) r = (v : TaskVal) × (core.val t ≡ Some v) × (r ≡ Took t (val.Task v))
IsNoted core s (step.GiveTask t given stood done) r =
    (v : TaskVal) × (core.task_held s t ≡ Some v) × (r ≡ Gave t (val.Task v) (val.Task given))
IsNoted core s (step.TakeQueue c) r = (v : Queue) × (core.queue c ≡ Some v) × (r ≡ Took c (val.Queue v))
IsNoted core s (step.GiveQueue c given) r =
    (v : Queue) × (core.queue_held s c ≡ Some v) × (r ≡ Gave c (val.Queue v) (val.Queue given))
IsNoted core s (step.TakeWait k) r = (v : List WaitEntry) × (core.wait k ≡ Some v) × (r ≡ Took k (val.Wait v))
IsNoted core s (step.GiveWait k given) r =
    (v : List WaitEntry) × (core.wait_held s k ≡ Some v) × (r ≡ Gave k (val.Wait v) (val.Wait given))
IsNoted core s (step.TakeWorks c) r = (v : List WorkItem) × (core.works c ≡ Some v) × (r ≡ Took c (val.Works v))
IsNoted core s (step.GiveWorks c given) r =
    (v : List WorkItem) × (core.works_held s c ≡ Some v) × (r ≡ Gave c (val.Works v) (val.Works given))
IsNoted core s (step.BodyOut t) r = r ≡ OutBody t (core.ended t)
IsNoted core s (step.BodyHome t ended) r = r ≡ HomeBody t ended
IsNoted core s (step.QueueTask c t) r = r ≡ Queued t c (core.on_rq t) (core.changes t)
IsNoted core s (step.DequeueTask c t) r = r ≡ Dequeued t c (core.changes t)
IsNoted core s (step.MoveTask c t queue) r = r ≡ Moved t c (core.changes t)
IsNoted core s (step.SetBusy c t queue) r = r ≡ SetBusy t c (core.runs t)
IsNoted core s (step.ClearBusy t) r = r ≡ ClearedBusy t (core.runs t)
IsNoted core s (step.SetState t state) r = r ≡ StateSet t state
IsNoted core s (step.ClaimTask t) r = r ≡ Claimed t (core.changes t)
IsNoted core s (step.MakeRunnable t) r = r ≡ MadeRunnable t
IsNoted core s (step.LoadState t mask) r = r ≡ LoadedState t mask (core.state t)
IsNoted core s (step.LoadRq t) r = r ≡ LoadedRq t (core.on_rq t) (core.changes t)
IsNoted core s (step.LoadBusy t) r = r ≡ LoadedBusy t (core.on_cpu t) (core.runs t)
IsNoted core s (step.LoadCpu t) r = r ≡ LoadedCpu t (core.cpu t)
IsNoted core s (step.LoadCount t) r = r ≡ LoadedCount t (core.count t)
IsNoted core s (step.StoreCpu t c) r = r ≡ StoredCpu t c
IsNoted core s (step.Bump k) r = r ≡ Bumped k (core.cond k)
IsNoted core s (step.LoadCond k) r = r ≡ LoadedCond k (core.cond k)

-- The word that a step of the seat s writes, by the words before and after: no other word changes. A store of a queue
-- word or a busy word leaves open what it puts there, which the core's next tells.
abbrev pub Writes : ℕ → StepKind → (ℕ → ℕ → ℕ) → (ℕ → ℕ → ℕ) → Type 0
Writes s (step.TakeTask t) words words' = words' ≡ put_at words t LOCK (suc s)
Writes s (step.GiveTask t given stood done) words words' = words' ≡ put_at words t LOCK 0
Writes s (step.TakeQueue c) words words' = words' ≡ put_at words c QUEUE_LOCK (suc s)
Writes s (step.GiveQueue c given) words words' = words' ≡ put_at words c QUEUE_LOCK 0
Writes s (step.TakeWait k) words words' = words' ≡ put_at words k WAIT_LOCK (suc s)
Writes s (step.GiveWait k given) words words' = words' ≡ put_at words k WAIT_LOCK 0
Writes s (step.TakeWorks c) words words' = words' ≡ put_at words c WORKS_LOCK (suc s)
Writes s (step.GiveWorks c given) words words' = words' ≡ put_at words c WORKS_LOCK 0
Writes s (step.QueueTask c t) words words' = (x : ℕ) × (words' ≡ put_at words t RQ x)
Writes s (step.DequeueTask c t) words words' = (x : ℕ) × (words' ≡ put_at words t RQ x)
Writes s (step.MoveTask c t queue) words words' = (x : ℕ) × (words' ≡ put_at words t RQ x)
Writes s (step.SetBusy c t queue) words words' = (x : ℕ) × (words' ≡ put_at words t BUSY x)
Writes s (step.ClearBusy t) words words' = (x : ℕ) × (words' ≡ put_at words t BUSY x)
Writes s (step.SetState t state) words words' = words' ≡ put_at words t STATE state.0
Writes s (step.ClaimTask t) words words' = words' ≡ put_at words t STATE waking.0
Writes s (step.MakeRunnable t) words words' = words' ≡ put_at words t STATE 0
Writes s (step.StoreCpu t c) words words' = words' ≡ put_at words t CPU c
Writes s (step.Bump k) words words' = words' ≡ put_at words k COND ((words k COND + 1) % 2 ^ 64)
Writes s kind words words' = words' ≡ words

-- A step by which the seat s puts r in front of its trace, and which leaves these words and values at home, is one
-- event of the core that was shown: r is its record, it was possible there, and the core shown after it is that core's
-- own next.
pub record IsEvent
    (shape : Shape)
    (words : ℕ → ℕ → ℕ)
    (homes : Homes)
    (traces : ℕ → List Rec)
    (s : ℕ)
    (r : Rec)
    (words' : ℕ → ℕ → ℕ)
    (homes' : Homes)
    : Type 0 where
  pub kind : StepKind
  pub noted : IsNoted (core_of shape words homes traces) s kind r
  pub writes : Writes s kind words words'
  pub event :
      Step (core_of shape words homes traces) (record { seat = s; step = kind })
      (core_after shape words' homes' traces s r)
