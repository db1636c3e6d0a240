-- What a seat has done with a queue since it took the queue's lock, but for loads: each shape of it allows the give. v
-- is the queue as it was taken, and rs the trace before.
use Rattle.std.specs.Prelude.{◌≡◌, ℕ, ◌<◌, ◌++◌, ◌∷◌, [], ◌⊎◌, Bool, true, false, List, Some, None, if◌then◌else◌}
use Rattle.std.specs.List.{filter}
use Rattle.core_data.specs.Queue.{Queue, times_in, is_other}
use Rattle.core_data.specs.declared.values.TaskVal.{TaskVal}
use Rattle.core_data.specs.declared.values.WaitEntry.{WaitEntry}
use Rattle.core_gives.specs.Waits.{has_task}
use Rattle.core_kinds.specs.Locks.{IsKept}
use Rattle.handoff_data.specs.declared.shape.Shape.{Shape}
use Rattle.handoff_data.specs.declared.state.State.{State}
use Rattle.word_rule.specs.May.{number_of}
use Rattle.word_rule.specs.Standing.{is_runnable}
use Rattle.word_rule.specs.Told.{TakenQueue, TakenWait, IsOff}
use Rattle.word_steps.specs.Folds.{task_held, current_task, stays_queued, body_held, task_to_clear, seen_state}
use Rattle.word_steps.specs.Folds.{is_claimed, is_moving}
use Rattle.word_steps.specs.Records.{Rec, Took, Queued, Dequeued, Moved, SetBusy, StateSet, MadeRunnable, LoadedState}
use Rattle.word_steps.specs.Records.{LoadedRq, LoadedBusy, LoadedCpu, LoadedCount, LoadedCond}
use Rattle.word_steps.specs.declared.val.Val.TheVariants as val

-- loads change nothing of a queue
abbrev pub is_load : Rec → Bool
is_load (LoadedState t mask state) = true
is_load (LoadedRq t on m) = true
is_load (LoadedBusy t busy n) = true
is_load (LoadedCpu t c) = true
is_load (LoadedCount t level) = true
is_load (LoadedCond k v) = true
is_load r = false

-- nor does TASK_RUNNING stored of another task
abbrev pub is_quiet : Rec → Bool
is_quiet (MadeRunnable t) = true
is_quiet r = is_load r

abbrev pub takes_queue : Rec → Bool
takes_queue (Took n (val.Queue v)) = true
takes_queue r = false

-- the trace without such steps since the newest lock of a queue was taken
abbrev pub without : (Rec → Bool) → List Rec → List Rec
without such [] = []
without such (r ∷ rs) = if takes_queue r then r ∷ rs else (if such r then without such rs else r ∷ without such rs)

abbrev pub since : List Rec → List Rec
since trace = without is_load trace

abbrev pub quiet_since : List Rec → List Rec
quiet_since trace = without is_quiet trace

module _ (shape : Shape) (s : ℕ) (trace : List Rec) (c : ℕ) where
  -- it is as it was taken
  pub record IsAsTaken (given : Queue) : Type 0 where
    pub rs : List Rec
    pub did : quiet_since trace ≡ Took c (val.Queue given) ∷ rs
    pub told : TakenQueue shape s rs c given

  -- nothing was done since it was taken
  pub record IsJustTaken (given : Queue) : Type 0 where
    pub rs : List Rec
    pub did : since trace ≡ Took c (val.Queue given) ∷ rs
    pub told : TakenQueue shape s rs c given

  -- t was queued on it, as new or half way from another queue, and put at the back: its state stays
  pub record IsPut (given : Queue) : Type 0 where
    pub t : ℕ
    pub on : ℕ
    pub m : ℕ
    pub v : Queue
    pub rs : List Rec
    pub did : since trace ≡ Queued t c on m ∷ Took c (val.Queue v) ∷ rs
    pub told : TakenQueue shape s rs c v
    pub ready : (m ≡ 0) ⊎ (on ≡ 2)
    pub put : given ≡ record v { waiting = v.waiting ++ t ∷ [] }

  -- t was queued on it, put at the back, and stored as running
  pub record IsWoken (given : Queue) : Type 0 where
    pub t : ℕ
    pub on : ℕ
    pub m : ℕ
    pub v : Queue
    pub rs : List Rec
    pub did : since trace ≡ MadeRunnable t ∷ Queued t c on m ∷ Took c (val.Queue v) ∷ rs
    pub told : TakenQueue shape s rs c v
    pub put : given ≡ record v { waiting = v.waiting ++ t ∷ [] }

  -- t, which waits there once, was taken off it to be moved
  pub record IsMovedOff (t : ℕ) (now : Queue) : Type 0 where
    pub m : ℕ
    pub rs : List Rec
    pub did : since trace ≡ Moved t c m ∷ Took c (val.Queue now) ∷ rs
    pub told : TakenQueue shape s rs c now
    pub waiting : times_in now.waiting t ≡ 1

  -- .. and out of those who wait
  pub record IsMoved (given : Queue) : Type 0 where
    pub t : ℕ
    pub v : Queue
    pub off : IsMovedOff t v
    pub rest : given ≡ record v { waiting = filter (is_other t) v.waiting }

module _ (shape : Shape) (s : ℕ) (trace : List Rec) where
  -- the first that waited was picked from the seat's own queue
  pub record IsPicked (given : Queue) : Type 0 where
    pub t : ℕ
    pub n : ℕ
    pub v : Queue
    pub rs : List Rec
    pub did : since trace ≡ SetBusy t s n ∷ Took s (val.Queue v) ∷ rs
    pub told : TakenQueue shape s rs s v
    pub clear : task_to_clear s rs ≡ None
    pub none : v.cur ≡ None
    pub first : v.waiting ≡ t ∷ given.waiting
    pub next : given ≡ record v { waiting = given.waiting; cur = Some t }

  -- the task that stood as the next of the seat's own queue, which the seat had not picked, was picked
  pub record IsPickedCur (given : Queue) : Type 0 where
    pub t : ℕ
    pub n : ℕ
    pub rs : List Rec
    pub did : since trace ≡ SetBusy t s n ∷ Took s (val.Queue given) ∷ rs
    pub told : TakenQueue shape s rs s given
    pub next : given.cur ≡ Some t

  -- the seat's current task, which was read to run or to be new, was put back at the end
  pub record IsPutBack (given : Queue) : Type 0 where
    pub t : ℕ
    pub state : State
    pub v : Queue
    pub rs : List Rec
    pub did : since trace ≡ Took s (val.Queue v) ∷ rs
    pub seen : seen_state s trace ≡ Some state
    pub runs : is_runnable state ≡ true
    pub told : TakenQueue shape s rs s v
    pub current : current_task s rs ≡ Some t
    pub stays : stays_queued rs ≡ true
    pub home : body_held rs ≡ None
    pub back : given ≡ record v { waiting = v.waiting ++ t ∷ []; cur = None; left = Some t }

  -- it left the queue to sleep, or to die
  pub record IsAsleep (given : Queue) : Type 0 where
    pub t : ℕ
    pub m : ℕ
    pub v : Queue
    pub rs : List Rec
    pub did : since trace ≡ Dequeued t s m ∷ Took s (val.Queue v) ∷ rs
    pub told : TakenQueue shape s rs s v
    pub current : current_task s rs ≡ Some t
    pub home : body_held rs ≡ None
    pub gone : given ≡ record v { cur = None; left = Some t }

  -- there is room for t at the back: it was on no queue and was queued on this one, or it is the seat's own current
  -- task
  pub record IsQueuedHere (c t : ℕ) (now : Queue) : Type 0 where
    pub rs : List Rec
    pub on : ℕ
    pub m : ℕ
    pub did : since trace ≡ Queued t c on m ∷ Took c (val.Queue now) ∷ rs
    pub told : TakenQueue shape s rs c now
    pub off : IsOff rs t

  pub record IsCurrentHere (c t : ℕ) (now : Queue) : Type 0 where
    pub rs : List Rec
    pub did : quiet_since trace ≡ Took c (val.Queue now) ∷ rs
    pub own : s ≡ c
    pub told : TakenQueue shape s rs c now
    pub current : current_task s rs ≡ Some t

  abbrev pub HasRoomFor : ℕ → ℕ → Queue → Type 0
  HasRoomFor c t now = IsQueuedHere c t now ⊎ IsCurrentHere c t now

-- a task that was queued under its lock, and isn't half way to a queue
pub record IsQueuedUnder (shape : Shape) (trace : List Rec) (t : ℕ) (given : TaskVal) : Type 0 where
  pub taken : TaskVal
  pub held : task_held trace t ≡ Some taken
  pub kept : IsKept taken given
  pub wake_cpu : given.wake_cpu < shape.cpus
  pub dest : given.dest < shape.cpus
  pub unclaimed : is_claimed trace t ≡ false
  pub unmoved : is_moving trace t ≡ false
  pub number : 0 < number_of trace t

-- a wait queue with an entry put in: an exclusive one at the tail, another at the head
unfoldable pub entered : WaitEntry → List WaitEntry → List WaitEntry
entered x v = if x.exclusive then v ++ x ∷ [] else x ∷ v

-- the current task's entry was put in at a wait queue that had none of it, and then a state was stored
pub record IsEntered (shape : Shape) (s : ℕ) (trace : List Rec) (k : ℕ) (given : List WaitEntry) : Type 0 where
  pub v : List WaitEntry
  pub x : WaitEntry
  pub put : given ≡ entered x v
  pub state : State
  pub rs : List Rec
  pub did : trace ≡ StateSet x.t state ∷ Took k (val.Wait v) ∷ rs
  pub told : TakenWait shape v
  pub absent : has_task v x.t ≡ false
  pub current : current_task s rs ≡ Some x.t
  pub task : x.t < shape.tasks
