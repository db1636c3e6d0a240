-- What steps may change and what they keep, said in the words of the machine rather than in those of its steps.
use Rattle.std.specs.Prelude.{◌≡◌, ◌≢◌, ◌+◌, ◌^◌, ◌<◌, ◌⊎◌, ◌↔◌, ◌++◌, ◌∷◌, [], ℕ, Bool, true, false, List, Option}
use Rattle.std.specs.Prelude.{Some, None, IsSome, bit_and}
use Rattle.core_data.specs.Queue.{Queue, times_in}
use Rattle.core_data.specs.Columns.{Columns}
use Rattle.core_data.specs.declared.pos.TaskReads.{TaskReads}
use Rattle.core_data.specs.declared.values.TaskVal.{TaskVal}
use Rattle.core_data.specs.declared.values.WaitEntry.{WaitEntry}
use Rattle.core_data.specs.declared.values.WorkItem.{WorkItem}
use Rattle.core_gives.specs.Queues.{MayGiveQueue}
use Rattle.core_gives.specs.Waits.{MayGiveWait, give_wait, has_task}
use Rattle.core_invariant.specs.Sleepers.{IsAwake}
use Rattle.core_kinds.specs.Locks.{MayGiveTask, MayGiveWorks}
use Rattle.core_kinds.specs.Running.{MayDequeue, MayMove, MaySetBusy, set_busy, queue_task, dequeue_task, move_task}
use Rattle.core_kinds.specs.Steps.{dead, fresh, is_sleep, IsBelowEnd}
use Rattle.core_kinds.specs.Waking.{set_state, make_runnable, load_state, load_rq, load_busy, load_cpu, load_count}
use Rattle.core_kinds.specs.Waking.{store_cpu, load_cond}
use Rattle.handoff_data.specs.declared.entry.Entry.TheVariants.{Refused}
use Rattle.handoff_data.specs.declared.state.State.{State}

-- No step of another seat changes the state of a dead task.
abbrev pub KeepsTheDead : ℕ → Columns → Columns → Type 0
KeepsTheDead seat core next = (t : ℕ) → core.state t ≡ dead → core.current_task seat ≢ Some t → next.state t ≡ dead

-- a seat may store the state of its current task, of one whose lock it has, and of one that it queued under the lock of
-- its queue while it still has that lock
abbrev pub IsStoredBy : Columns → ℕ → ℕ → Type 0
IsStoredBy core s t =
    (core.current_task s ≡ Some t)
    ⊎ ((core.lock t ≡ Some s) ⊎ ((core.queue_lock (core.cpu t) ≡ Some s) × (core.has_added s (core.cpu t) t ≡ true)))

-- No other seat changes the state of a task.
abbrev pub StoresItsStates : ℕ → Columns → Columns → Type 0
StoresItsStates seat core next = (t : ℕ) → (next.state t ≡ core.state t) ⊎ IsStoredBy core seat t

-- the words of t that a seat may have read are the same
pub record HasSameWords (core next : Columns) (t : ℕ) : Type 0 where
  pub state : next.state t ≡ core.state t
  pub on_rq : next.on_rq t ≡ core.on_rq t
  pub changes : next.changes t ≡ core.changes t
  pub on_cpu : next.on_cpu t ≡ core.on_cpu t
  pub cpu : next.cpu t ≡ core.cpu t

-- a seat has no read of a task's state, queue word and busy word
pub record IsUnread (reads : TaskReads) : Type 0 where
  pub state : reads.state ≡ None
  pub rq : reads.rq ≡ None
  pub busy : reads.busy ≡ None

-- A seat that changes a word of a task has no read of it any more.
abbrev pub EndsReads : ℕ → Columns → Columns → Type 0
EndsReads seat core next = (t : ℕ) → HasSameWords core next t ⊎ IsUnread (next.last_reads seat t)

-- What a seat has as tests changes only by its own steps, and only as to its current task: a sleeper's test stays.
abbrev pub KeepsTests : ℕ → Columns → Columns → Type 0
KeepsTests seat core next =
    (x t k : ℕ) → (next.tested x t k ≡ core.tested x t k) ⊎ ((x ≡ seat) × (next.current_task seat ≡ Some t))

-- What a sleeper stored and tested, and where it was put to sleep, is kept for the laws on wakes.
pub record SleepsAreKept (core : Columns) : Type 0 where
  pub slept : (s t : ℕ) (state : State) → is_sleep state ≡ true → (set_state core s t state).has_slept s t ≡ true
  pub slept_in : (s t k : ℕ) (state : State) → is_sleep state ≡ true
      → (set_state core s t state).has_slept_in s k t ≡ true
  pub own_stored : (s t k : ℕ) (state : State) → (set_state core s t state).has_own_stored s k t ≡ true
  -- a sleeper that loads its condition has tested it
  pub tests : (s t k : ℕ) → core.current_task s ≡ Some t → core.has_slept s t ≡ true
      → (load_cond core s k).tested s t k ≡ Some (core.cond k)
  -- one that has its entry in the wait queue given is put to sleep there
  pub sleeps : (s t k : ℕ) (given : List WaitEntry) → MayGiveWait core s k given → core.current_task s ≡ Some t
      → has_task given t ≡ true → core.has_slept_in s k t ≡ true → (give_wait core s k given).is_asleep s t k ≡ true

-- A seat passes a task by reading it awake or new, and by storing TASK_RUNNING; not by reading it asleep.
pub record PassesAreKept (core : Columns) : Type 0 where
  pub read : (s t k : ℕ) (mask : Option State) → IsAwake (core.state t) ⊎ (core.state t ≡ fresh)
      → (load_state core s t mask).has_passed s k t ≡ true
  pub asleep : (s t k : ℕ) (mask : Option State) → is_sleep (core.state t) ≡ true
      → (load_state core s t mask).has_passed s k t ≡ core.has_passed s k t
  pub own : (s t k : ℕ) (state : State) → state.0 ≡ 0 → (set_state core s t state).has_passed s k t ≡ true
  pub made_runnable : (s t k : ℕ) → (make_runnable core s t).has_passed s k t ≡ true

-- A load with a mask notes the state as refused where it has no bit of the mask, and no other load does.
pub record RefusalsAreTold (core : Columns) : Type 0 where
  pub refused : (s t : ℕ) (mask : State) → bit_and (core.state t).0 mask.0 ≡ 0
      → (load_state core s t (Some mask)).journal s ≡ core.journal s ++ Refused t (core.state t) ∷ []
  pub matched : (s t : ℕ) (mask : State) → bit_and (core.state t).0 mask.0 ≢ 0
      → (load_state core s t (Some mask)).journal s ≡ core.journal s
  pub unmasked : (s t : ℕ) → (load_state core s t None).journal s ≡ core.journal s

-- What a seat notes of a word is what it read there or stored.
pub record LoadsTell (core : Columns) : Type 0 where
  pub state : (s t : ℕ) (mask : Option State) → ((load_state core s t mask).last_reads s t).state ≡ Some (core.state t)
  pub rq : (s t : ℕ) → IsSome (core.last_reads s t).state
      → ((load_rq core s t).last_reads s t).rq ≡ Some (record { on = core.on_rq t; m = core.changes t })
  pub busy : (s t : ℕ) → IsSome (core.last_reads s t).rq
      → ((load_busy core s t).last_reads s t).busy ≡ Some (core.on_cpu t)
  pub cpu : (s t : ℕ) → ((load_cpu core s t).last_reads s t).cpu ≡ Some (core.cpu t)
  -- a seat keeps the level of its current task, not that of another, until it picks
  pub level : (s t : ℕ) → core.current_task s ≡ Some t → (load_count core s t).level_known s ≡ Some (core.count t)
  pub other_level : (s t : ℕ) → core.current_task s ≢ Some t → (load_count core s t).level_known s ≡ core.level_known s
  pub unknown_level : (s c t : ℕ) → (set_busy core s c t).level_known s ≡ None
  pub placed : (s t c : ℕ) → ((store_cpu core s t c).last_reads s t).cpu ≡ Some c
  pub number : (s t : ℕ) → ((load_rq core s t).last_reads s t).number ≡ Some (core.changes t)
  pub queued : (s c t : ℕ) → ((queue_task core s c t).last_reads s t).number ≡ Some (core.changes t + 1)
  pub left : (s c t : ℕ) → ((dequeue_task core s c t).last_reads s t).number ≡ Some (core.changes t + 1)
  pub moved : (s c t : ℕ) → ((move_task core s c t).last_reads s t).number ≡ Some (core.changes t + 1)

-- Until the steps that change them come: a give of a task's lock leaves what it guards but for `wake_cpu` and `dest`,
-- and tells neither that the task stood nor that a record is done; a give of works leaves them.
pub record GivesKeep (core : Columns) : Type 0 where
  pub mask : (s t : ℕ) (val taken : TaskVal) (stood done : Bool) → MayGiveTask core s t val stood done
      → core.task_held s t ≡ Some taken → (val.mask ≡ taken.mask) × (val.r ≡ taken.r)
  pub rest : (s t : ℕ) (val taken : TaskVal) (stood done : Bool) → MayGiveTask core s t val stood done
      → core.task_held s t ≡ Some taken
      → (val.narrowed ≡ taken.narrowed) × (val.pending ≡ taken.pending) × (val.stop_queued ≡ taken.stop_queued)
  pub untold : (s t : ℕ) (val : TaskVal) (stood done : Bool) → MayGiveTask core s t val stood done
      → (stood ≡ false) × (done ≡ false)
  pub works : (s c : ℕ) (val : List WorkItem) → MayGiveWorks core s c val → core.works_held s c ≡ Some val

-- What a step asks that no word shows later: a task dies, and is given up without its lock, only at disable count 0; a
-- pick is of the task that the queue has as its next, and a move of one that waits there.
pub record StepsAsk (core : Columns) : Type 0 where
  pub dies : (s c t : ℕ) → MayDequeue core s c t → core.seen_state s ≡ Some dead → core.count t ≡ 0
  pub given_up : (s t : ℕ) (queue : Queue) → MayGiveQueue core s s queue → core.current_task s ≡ Some t
      → queue.cur ≡ None
      → (core.lock t ≡ Some s) ⊎ (core.count t ≡ 0)
  pub picked : (s c t : ℕ) (queue : Queue) → MaySetBusy core s c t queue → queue.cur ≡ Some t
  pub moved : (s c t : ℕ) (queue : Queue) → MayMove core s c t queue → times_in queue.waiting t ≡ 1

-- The sleep states are TASK_INTERRUPTIBLE (1) and TASK_UNINTERRUPTIBLE (2), and a number of changes or runs may rise as
-- long as it is below 2^60.
pub record WordsMean : Type 0 where
  pub sleeps : (state : State) → (is_sleep state ≡ true) ↔ ((state.0 ≡ 1) ⊎ (state.0 ≡ 2))
  pub room : (n : ℕ) → IsBelowEnd n ↔ (n < 2 ^ 60)
