-- When a seat may make each kind of step: by its number s, its own trace, the word that the step finds, x, and the word
-- that it leaves, y.
use Rattle.std.specs.Prelude.{◌≡◌, ◌≢◌, ℕ, suc, ◌+◌, ◌*◌, ◌%◌, ◌/◌, ◌^◌, ◌<◌, ◌⊎◌, Bool, true, false, List, Some, None}
use Rattle.std.specs.Prelude.{IsSome, unwrap_or, if◌then◌else◌}
use Rattle.core_data.specs.Entries.{has_entry}
use Rattle.core_data.specs.Queue.{Queue, times_in}
use Rattle.core_data.specs.declared.values.TaskVal.{TaskVal}
use Rattle.core_data.specs.declared.values.WaitEntry.{WaitEntry}
use Rattle.core_data.specs.declared.values.WorkItem.{WorkItem}
use Rattle.core_gives.specs.Queues.{times}
use Rattle.core_gives.specs.Waits.{HasEachOnce}
use Rattle.core_kinds.specs.Locks.{IsKept}
use Rattle.core_kinds.specs.Running.{MayLeave}
use Rattle.core_kinds.specs.Steps.{is_sleep, dead, running, waking}
use Rattle.handoff_data.specs.declared.shape.Shape.{Shape}
use Rattle.word_rule.specs.Sorts.{Sort, OfTask, OfQueue, OfWorks, OfWait}
use Rattle.word_rule.specs.Standing.{standing, may_run}
use Rattle.word_steps.specs.Folds.{task_held, queue_held, works_held, wait_held, body_held, ended_known, current_task}
use Rattle.word_steps.specs.Folds.{stays_queued, task_to_clear, seen_state, has_matched, saw_off, is_claimed, saw_clear}
use Rattle.word_steps.specs.Folds.{has_stored, saw_idle, has_added, has_dropped, has_put, has_passed, has_own_stored}
use Rattle.word_steps.specs.Folds.{is_moving, number_read, last_reads, saw_queued}
use Rattle.word_steps.specs.Records.{Rec}
use Rattle.word_steps.specs.declared.val.Val.{Val}
use Rattle.word_steps.specs.declared.val.Val.TheVariants as val

-- the processor of a task and the number of its changes, as the seat last read or stored them
abbrev pub cpu_read_of : List Rec → ℕ → ℕ
cpu_read_of trace t = unwrap_or (last_reads trace t).cpu 0

abbrev pub number_of : List Rec → ℕ → ℕ
number_of trace t = unwrap_or (number_read trace t) 0

-- `on_rq` of a task that the seat may queue, as its trace tells: 2 where the seat moves it, else 0
abbrev pub on_of : List Rec → ℕ → ℕ
on_of trace t = if is_moving trace t then 2 else 0

-- the queue word after a change, with 60 bits for its number
abbrev pub next_rq : ℕ → ℕ → ℕ
next_rq x on = 4 * (x / 4 + 1) + on

abbrev pub queued_next : ℕ → ℕ
queued_next m = 4 * (m + 1) + 1

abbrev pub next_busy : ℕ → ℕ
next_busy x = 2 * (x / 2 + 1) + 1

module _ (s : ℕ) (trace : List Rec) where
  -- `on_rq` to 1, with the number after the one that the seat has read or made
  pub record MayQueueWord (t x y : ℕ) : Type 0 where
    pub number : ℕ
    pub known : number_read trace t ≡ Some number
    pub room : number < 2 ^ 60
    pub after : y ≡ queued_next number
    pub locked : IsSome (task_held trace t)
    pub cpu : ℕ
    pub read : (last_reads trace t).cpu ≡ Some cpu
    pub queue : IsSome (queue_held trace cpu)
    pub ready : (number_read trace t ≡ Some 0) ⊎ (((is_claimed trace t ≡ true) × (saw_clear trace t ≡ true))
        ⊎ (is_moving trace t ≡ true))

  -- `on_rq` to 0
  pub record MayDequeueWord (t x y : ℕ) : Type 0 where
    pub after : y ≡ next_rq x 0
    pub room : x / 4 < 2 ^ 60
    pub queue : IsSome (queue_held trace s)
    pub current : current_task s trace ≡ Some t
    pub stays : stays_queued trace ≡ true
    pub seen : MayLeave (seen_state s trace) 0

  -- `on_rq` to 2
  pub record MayMoveWord (t x y : ℕ) : Type 0 where
    pub after : y ≡ next_rq x 2
    pub room : x / 4 < 2 ^ 60
    pub locked : IsSome (task_held trace t)
    pub cpu : ℕ
    pub read : (last_reads trace t).cpu ≡ Some cpu
    pub taken : Queue
    pub queue : queue_held trace cpu ≡ Some taken
    pub waiting : times_in taken.waiting t ≡ 1
    pub unadded : has_added trace cpu t ≡ false
    pub undropped : has_dropped trace cpu t ≡ false
    pub idle : saw_idle trace cpu t ≡ true
    pub other : current_task s trace ≢ Some t

  -- the busy word is set
  pub record MaySetBusyWord (t x y : ℕ) : Type 0 where
    pub after : y ≡ next_busy x
    pub room : x / 2 < 2 ^ 60
    pub taken : Queue
    pub queue : queue_held trace s ≡ Some taken
    pub stands : (may_run s trace s t ≡ true)
        ⊎ ((times taken t ≡ 1) × (has_added trace s t ≡ false) × (has_dropped trace s t ≡ false))
    pub none : current_task s trace ≡ None
    pub clear : task_to_clear s trace ≡ None

  -- .. and cleared
  pub record MayClearBusyWord (t x y : ℕ) : Type 0 where
    pub after : y ≡ (x + 1) % 2 ^ 64
    pub left : task_to_clear s trace ≡ Some t
    pub other : current_task s trace ≢ Some t

  -- the current task's own state; its death only under its lock, once its body has ended
  pub record MaySetStateWord (t x y : ℕ) : Type 0 where
    pub current : current_task s trace ≡ Some t
    pub stays : stays_queued trace ≡ true
    pub allowed :
        (record { 0 = y } ≡ running)
        ⊎ ((is_sleep (record { 0 = y }) ≡ true)
        ⊎ ((record { 0 = y } ≡ dead) × IsSome (task_held trace t) × (ended_known trace t ≡ Some true)))

  -- TASK_WAKING: under the task's lock a matching state was read and then `on_rq` as 0
  pub record MayClaimWord (t x y : ℕ) : Type 0 where
    pub after : y ≡ waking.0
    pub locked : IsSome (task_held trace t)
    pub off : saw_off trace t ≡ true

  -- TASK_RUNNING: of a new task, of one that is queued and matched, and of one that the seat has put on the queue c
  abbrev pub IsNewHere : ℕ → Type 0
  IsNewHere t = IsSome (task_held trace t) × (number_read trace t ≡ Some 0)

  pub record IsMatchedHere (c t : ℕ) : Type 0 where
    pub locked : IsSome (task_held trace t)
    pub matched : has_matched trace t ≡ true
    pub queue : IsSome (queue_held trace c)
    pub read : (last_reads trace t).cpu ≡ Some c
    pub queued : saw_queued trace c t ≡ true
    pub other : current_task s trace ≢ Some t

  pub record IsPutHere (c t : ℕ) : Type 0 where
    pub queue : IsSome (queue_held trace c)
    pub there : has_put trace c t ≡ true
    pub added : has_added trace c t ≡ true
    pub other : current_task s trace ≢ Some t

  pub record MayMakeRunnableWord (t x y : ℕ) : Type 0 where
    pub after : y ≡ 0
    pub ready : IsNewHere t ⊎ (((c : ℕ) × IsMatchedHere c t) ⊎ ((c : ℕ) × IsPutHere c t))

  -- the processor word: of a new task, of one that the seat has claimed, and of one that it moves
  pub record MayCpuWord (shape : Shape) (t x y : ℕ) : Type 0 where
    pub processor : y < shape.cpus
    pub placeable : IsNewHere t ⊎ (((is_claimed trace t ≡ true) × (saw_clear trace t ≡ true))
        ⊎ ((IsSome (task_held trace t)) × (is_moving trace t ≡ true)))

  -- The gives

  -- of a task's lock
  pub record MayGiveTaskVal (shape : Shape) (t : ℕ) (given : TaskVal) : Type 0 where
    pub taken : TaskVal
    pub held : task_held trace t ≡ Some taken
    pub kept : IsKept taken given
    pub wake_cpu : given.wake_cpu < shape.cpus
    pub dest : given.dest < shape.cpus
    -- it isn't half way to a queue
    pub settled : (has_stored trace t ≡ false) ⊎ ((is_claimed trace t ≡ false) × (is_moving trace t ≡ false))
    -- a new task has no word stored
    pub begun :
        (has_stored trace t ≡ false)
        ⊎ (((m : ℕ) × (number_read trace t ≡ Some (suc m)))
        ⊎ ((has_matched trace t ≡ true) ⊎ (current_task s trace ≡ Some t)))

  -- of a queue's lock: each task that stands there, once, and those who wait may run; only its own seat switches
  pub record MayGiveQueueVal (shape : Shape) (c : ℕ) (given : Queue) : Type 0 where
    pub taken : Queue
    pub held : queue_held trace c ≡ Some taken
    pub stands : (t : ℕ) → times given t ≡ standing trace c t
    pub waits : (t : ℕ) → times_in given.waiting t ≢ 0 → may_run s trace c t ≡ true
    pub next : (t : ℕ) → given.cur ≡ Some t → (may_run s trace c t ≡ true) ⊎ (has_added trace c t ≡ false)
    pub others : s ≢ c → (given.cur ≡ taken.cur) × (given.left ≡ taken.left)
    pub own : s ≡ c → (t : ℕ) → current_task s trace ≡ Some t → (given.cur ≡ Some t)
        ⊎ ((given.cur ≡ None) × (given.left ≡ Some t) × (body_held trace ≡ None))
    pub clear : s ≡ c → (t : ℕ) → task_to_clear s trace ≡ Some t → given.left ≡ Some t
    pub left : (t : ℕ) → given.left ≡ Some t → t < shape.tasks

  -- of the lock of works, which stay as they are
  abbrev pub MayGiveWorksVal : ℕ → List WorkItem → Type 0
  MayGiveWorksVal c given = works_held trace c ≡ Some given

  -- of a wait queue's lock
  pub record MayGiveWaitVal (shape : Shape) (k : ℕ) (given : List WaitEntry) : Type 0 where
    pub taken : List WaitEntry
    pub held : wait_held trace k ≡ Some taken
    pub once : HasEachOnce given
    pub tasks : (x : WaitEntry) → has_entry given x ≡ true → x.t < shape.tasks
    pub put_in : (x : WaitEntry) → has_entry given x ≡ true → has_entry taken x ≡ false
        → (current_task s trace ≡ Some x.t) × (has_own_stored trace k x.t ≡ true)
    pub taken_out : (x : WaitEntry) → has_entry taken x ≡ true → has_entry given x ≡ false
        → (current_task s trace ≡ Some x.t) ⊎ (has_passed trace k x.t ≡ true)

  abbrev pub MayGive : Shape → Sort → ℕ → Val → Type 0
  MayGive shape OfTask n (val.Task v) = MayGiveTaskVal shape n v
  MayGive shape OfQueue n (val.Queue v) = MayGiveQueueVal shape n v
  MayGive shape OfWorks n (val.Works v) = MayGiveWorksVal n v
  MayGive shape OfWait n (val.Wait v) = MayGiveWaitVal shape n v
  MayGive shape sort n v = ⊥

  -- the body of the current task
  pub record MayTakeBody (t : ℕ) : Type 0 where
    pub current : current_task s trace ≡ Some t
    pub home : body_held trace ≡ None

  -- a body that had ended stays so
  pub record MayReturnBody (t : ℕ) (ended : Bool) : Type 0 where
    pub out : body_held trace ≡ Some t
    pub stays : ended_known trace t ≡ Some true → ended ≡ true
