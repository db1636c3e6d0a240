-- Locks: each is taken with the value under it, and given with the value that is put home.
use Rattle.std.specs.Prelude.{◌≡◌, ◌≢◌, ℕ, ◌<◌, ◌==◌, ◌⊎◌, Bool, false, List, Some, None, IsSome, if◌then◌else◌}
use Rattle.core_data.specs.Found.{no_reads}
use Rattle.core_data.specs.Noted.{noted}
use Rattle.core_data.specs.Columns.{Columns, put, put_at}
use Rattle.core_data.specs.declared.act.Act.TheVariants.{Renewed, TookTask, TookQueue, TookWait}
use Rattle.core_data.specs.declared.values.TaskVal.{TaskVal}
use Rattle.core_data.specs.declared.values.WorkItem.{WorkItem}
use Rattle.core_kinds.specs.Steps.{fresh, waking}

-- TakeTask: the lock is free, and its value moves to the seat
pub record MayTakeTask (core : Columns) (s t : ℕ) : Type 0 where
  pub seat : s < core.seats
  pub task : t < core.tasks
  pub free : core.lock t ≡ None
  pub home : IsSome (core.val t)

abbrev pub take_task : Columns → ℕ → ℕ → Columns
take_task core s t =
    noted (noted (record core {
      lock = put core.lock t (Some s);
      val = put core.val t None;
      task_held = put_at core.task_held s t (core.val t);
      last_reads = put_at core.last_reads s t (no_reads t);
    }) s (TookTask t)) s (Renewed t)

-- what a give of a task's lock leaves as it was taken, until the steps that change it come
pub record IsKept (taken given : TaskVal) : Type 0 where
  pub mask : given.mask ≡ taken.mask
  pub r : given.r ≡ taken.r
  pub narrowed : given.narrowed ≡ taken.narrowed
  pub pending : given.pending ≡ taken.pending
  pub stop_queued : given.stop_queued ≡ taken.stop_queued

-- t isn't half way to a queue
abbrev pub IsSettled : Columns → ℕ → Type 0
IsSettled core t = (core.on_rq t ≢ 2) × ((core.on_rq t ≢ 0) ⊎ (core.state t ≢ waking))

-- GiveTask
pub record MayGiveTask (core : Columns) (s t : ℕ) (val : TaskVal) (stood done : Bool) : Type 0 where
  pub seat : s < core.seats
  pub task : t < core.tasks
  pub locked : core.lock t ≡ Some s
  pub settled : IsSettled core t
  pub fresh : core.changes t ≡ 0 → core.state t ≡ fresh
  pub kept : (taken : TaskVal) → core.task_held s t ≡ Some taken → IsKept taken val
  pub out : IsSome (core.task_held s t)
  pub wake_cpu : val.wake_cpu < core.cpus
  pub dest : val.dest < core.cpus
  pub not_stood : stood ≡ false
  pub not_done : done ≡ false

abbrev pub give_task : Columns → ℕ → ℕ → TaskVal → Columns
give_task core s t val =
    record core {
      lock = put core.lock t None;
      val = put core.val t (Some val);
      task_held = put_at core.task_held s t None;
    }

-- TakeQueue: under its own queue's lock a seat begins to read its current task's state anew
pub record MayTakeQueue (core : Columns) (s c : ℕ) : Type 0 where
  pub seat : s < core.seats
  pub processor : c < core.cpus
  pub free : core.queue_lock c ≡ None
  pub home : IsSome (core.queue c)

abbrev pub unseen : Columns → ℕ → ℕ → Columns
unseen core s c = record core { seen_state = if s == c then put core.seen_state s None else core.seen_state }

abbrev pub take_queue : Columns → ℕ → ℕ → Columns
take_queue core s c =
    noted (unseen (record core {
      queue_lock = put core.queue_lock c (Some s);
      queue = put core.queue c None;
      queue_held = put_at core.queue_held s c (core.queue c);
    }) s c) s (TookQueue c)

-- TakeWorks and GiveWorks: the works stay as they were taken, until the steps that change them come
pub record MayTakeWorks (core : Columns) (s c : ℕ) : Type 0 where
  pub seat : s < core.seats
  pub processor : c < core.cpus
  pub free : core.works_lock c ≡ None
  pub home : IsSome (core.works c)

abbrev pub take_works : Columns → ℕ → ℕ → Columns
take_works core s c =
    record core {
      works_lock = put core.works_lock c (Some s);
      works = put core.works c None;
      works_held = put_at core.works_held s c (core.works c);
    }

pub record MayGiveWorks (core : Columns) (s c : ℕ) (val : List WorkItem) : Type 0 where
  pub seat : s < core.seats
  pub processor : c < core.cpus
  pub locked : core.works_lock c ≡ Some s
  pub kept : core.works_held s c ≡ Some val

abbrev pub give_works : Columns → ℕ → ℕ → List WorkItem → Columns
give_works core s c val =
    record core {
      works_lock = put core.works_lock c None;
      works = put core.works c (Some val);
      works_held = put_at core.works_held s c None;
    }

-- TakeWait
pub record MayTakeWait (core : Columns) (s k : ℕ) : Type 0 where
  pub seat : s < core.seats
  pub condition : k < core.conds
  pub free : core.wait_lock k ≡ None
  pub home : IsSome (core.wait k)

abbrev pub take_wait : Columns → ℕ → ℕ → Columns
take_wait core s k =
    noted (record core {
      wait_lock = put core.wait_lock k (Some s);
      wait = put core.wait k None;
      wait_held = put_at core.wait_held s k (core.wait k);
    }) s (TookWait k)
