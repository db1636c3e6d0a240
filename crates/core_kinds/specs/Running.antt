-- Running steps: a task's queue word, its busy word and its body.
use Rattle.std.specs.Prelude.{◌≡◌, ◌≢◌, ℕ, ◌<◌, ◌==◌, ◌⊎◌, ◌++◌, ◌∷◌, ◌+◌, [], Bool, true, false, Option, Some, None}
use Rattle.std.specs.Prelude.{if◌then◌else◌}
use Rattle.core_data.specs.Noted.{noted}
use Rattle.core_data.specs.Queue.{Queue, times_in}
use Rattle.core_data.specs.Columns.{Columns, put, put_at}
use Rattle.core_data.specs.declared.act.Act.TheVariants.{Queued, Dequeued, Picked, Renewed, StoredWord}
use Rattle.core_kinds.specs.Steps.{waking, dead, IsRunnable, IsBelowEnd, is_sleep, stored_word, numbered_reads}
use Rattle.handoff_data.specs.declared.entry.Entry.{Entry}
use Rattle.handoff_data.specs.declared.entry.Entry.TheVariants.{New, Sleep, Enq, Out, In, Die, Pick, Finish}
use Rattle.handoff_data.specs.declared.state.State.{State}

-- the store of an `on_rq` word with the next number, and its entry
abbrev pub store_rq : Columns → ℕ → ℕ → ℕ → Entry → Columns
store_rq core s t on entry =
    noted (noted (record core {
      on_rq = put core.on_rq t on;
      changes = put core.changes t (core.changes t + 1);
      journal = put core.journal s (core.journal s ++ entry ∷ []);
      last_reads = put_at core.last_reads s t (numbered_reads t (core.changes t + 1) (core.last_reads s t));
    }) s (Renewed t)) s (StoredWord t)

-- QueueTask: a new task, one that this seat wakes, or one that it moves
abbrev pub IsReady : Columns → ℕ → ℕ → Type 0
IsReady core s t =
    (core.changes t ≡ 0)
    ⊎ (((core.on_rq t ≡ 0) × (core.state t ≡ waking) × (core.saw_clear s t ≡ true)) ⊎ (core.on_rq t ≡ 2))

pub record MayQueue (core : Columns) (s c t : ℕ) : Type 0 where
  pub seat : s < core.seats
  pub task : t < core.tasks
  pub processor : c < core.cpus
  pub locked : core.queue_lock c ≡ Some s
  pub task_locked : core.lock t ≡ Some s
  pub here : core.cpu t ≡ c
  pub off : core.on_rq t ≢ 1
  pub ready : IsReady core s t
  pub room : IsBelowEnd (core.changes t)

abbrev pub queue_entry : ℕ → ℕ → ℕ → ℕ → Entry
queue_entry changes on t c = if changes == 0 then New t (changes + 1) c else if on == 2 then In t (changes + 1) c
    else Enq t (changes + 1) c false

abbrev pub queue_task : Columns → ℕ → ℕ → ℕ → Columns
queue_task core s c t = noted (store_rq core s t 1 (queue_entry (core.changes t) (core.on_rq t) t c)) s (Queued t)

-- DequeueTask: the current task sleeps or dies, by the state that was read under the lock of its queue
abbrev pub MayLeave : Option State → ℕ → Type 0
MayLeave None count = ⊥
MayLeave (Some state) count = (is_sleep state ≡ true) ⊎ ((state ≡ dead) × (count ≡ 0))

pub record MayDequeue (core : Columns) (s c t : ℕ) : Type 0 where
  pub seat : s < core.seats
  pub task : t < core.tasks
  pub own : s ≡ c
  pub processor : c < core.cpus
  pub locked : core.queue_lock c ≡ Some s
  pub current : core.current_task s ≡ Some t
  pub queued : core.on_rq t ≡ 1
  pub here : core.cpu t ≡ c
  pub seen : MayLeave (core.seen_state s) (core.count t)
  pub room : IsBelowEnd (core.changes t)

abbrev pub is_dead : Option State → Bool
is_dead None = false
is_dead (Some state) = state.0 == dead.0

abbrev pub dequeue_entry : Option State → ℕ → ℕ → ℕ → Entry
dequeue_entry seen changes t c = if is_dead seen then Die t (changes + 1) c else Sleep t (changes + 1) c

abbrev pub dequeue_task : Columns → ℕ → ℕ → ℕ → Columns
dequeue_task core s c t = noted (store_rq core s t 0 (dequeue_entry (core.seen_state s) (core.changes t) t c)) s
    (Dequeued t)

-- MoveTask: a waiting task is taken out to be moved
pub record MayMove (core : Columns) (s c t : ℕ) (val : Queue) : Type 0 where
  pub seat : s < core.seats
  pub task : t < core.tasks
  pub processor : c < core.cpus
  pub locked : core.queue_lock c ≡ Some s
  pub task_locked : core.lock t ≡ Some s
  pub waiting : times_in val.waiting t ≡ 1
  pub queued : core.on_rq t ≡ 1
  pub here : core.cpu t ≡ c
  pub runnable : IsRunnable (core.state t)
  pub other : core.current_task s ≢ Some t
  pub idle : core.saw_idle s c t ≡ true
  pub room : IsBelowEnd (core.changes t)

abbrev pub move_task : Columns → ℕ → ℕ → ℕ → Columns
move_task core s c t = noted (store_rq core s t 2 (Out t (core.changes t + 1) c)) s (Dequeued t)

-- SetBusy: the seat's own queue has t as its next, and the seat has nothing else in hand
pub record MaySetBusy (core : Columns) (s c t : ℕ) (val : Queue) : Type 0 where
  pub seat : s < core.seats
  pub task : t < core.tasks
  pub own : s ≡ c
  pub processor : c < core.cpus
  pub locked : core.queue_lock c ≡ Some s
  pub chosen : val.cur ≡ Some t
  pub queued : core.on_rq t ≡ 1
  pub here : core.cpu t ≡ c
  pub runnable : IsRunnable (core.state t)
  pub idle : core.on_cpu t ≡ false
  pub none : core.current_task s ≡ None
  pub clear : core.task_to_clear s ≡ None
  pub room : IsBelowEnd (core.runs t)

-- a task that is picked has neither tests nor sleeps of an earlier run, and its level is to be read anew
abbrev pub set_busy : Columns → ℕ → ℕ → ℕ → Columns
set_busy core s c t =
    noted (stored_word (record core {
      on_cpu = put core.on_cpu t true;
      runs = put core.runs t (core.runs t + 1);
      current_task = put core.current_task s (Some t);
      seen_state = put core.seen_state s None;
      level_known = put core.level_known s None;
      tested = put core.tested s (λ u l. if u == t then None else core.tested s u l);
      is_asleep = put core.is_asleep s (λ u l. if u == t then false else core.is_asleep s u l);
      journal = put core.journal s (core.journal s ++ Pick t (core.runs t + 1) c ∷ []);
    }) s t) s (Picked t)

-- ClearBusy: the task that the seat has just given up
pub record MayClearBusy (core : Columns) (s t : ℕ) : Type 0 where
  pub seat : s < core.seats
  pub task : t < core.tasks
  pub left : core.task_to_clear s ≡ Some t
  pub other : core.current_task s ≢ Some t
  pub room : IsBelowEnd (core.runs t)

abbrev pub clear_busy : Columns → ℕ → ℕ → Columns
clear_busy core s t =
    stored_word (record core {
      on_cpu = put core.on_cpu t false;
      runs = put core.runs t (core.runs t + 1);
      task_to_clear = put core.task_to_clear s None;
      journal = put core.journal s (core.journal s ++ Finish t (core.runs t + 1) s ∷ []);
    }) s t

-- BodyOut and BodyHome: the body of the seat's current task
pub record MayBodyOut (core : Columns) (s t : ℕ) : Type 0 where
  pub seat : s < core.seats
  pub task : t < core.tasks
  pub current : core.current_task s ≡ Some t
  pub home : core.body t ≡ true

abbrev pub body_out : Columns → ℕ → ℕ → Columns
body_out core s t = record core { body = put core.body t false; body_held = put core.body_held s (Some t) }

-- a body that had ended stays so
pub record MayBodyHome (core : Columns) (s t : ℕ) (ended : Bool) : Type 0 where
  pub seat : s < core.seats
  pub task : t < core.tasks
  pub current : core.current_task s ≡ Some t
  pub out : core.body_held s ≡ Some t
  pub stays : core.ended t ≡ true → ended ≡ true

abbrev pub body_home : Columns → ℕ → ℕ → Bool → Columns
body_home core s t ended =
    record core { body = put core.body t true; ended = put core.ended t ended; body_held = put core.body_held s None }
