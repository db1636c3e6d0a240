-- Steps that change nothing that sleepers rest on.
use Rattle.std.proofs.Common.{ℕ, Bool, true, false}
use Rattle.std.specs.Prelude.{List, ◌==◌, ◌&&◌}
use Rattle.core_data.specs.Queue.{Queue}
use Rattle.core_data.specs.Columns.{Columns, put_at}
use Rattle.core_data.specs.declared.act.Act.TheVariants.{SawOff, SawRestOff}
use Rattle.core_data.specs.declared.pos.TaskReads.{TaskReads}
use Rattle.core_data.specs.declared.values.TaskVal.{TaskVal}
use Rattle.core_data.specs.declared.values.WorkItem.{WorkItem}
use Rattle.core_invariant.specs.Invariant.{Holds}
use Rattle.core_invariant.specs.Sleepers.{SleepersHold}
use Rattle.core_kinds.specs.Locks.{MayTakeTask, take_task, MayGiveTask, give_task, MayTakeQueue, take_queue, MayTakeWorks, take_works, MayGiveWorks, give_works}
use Rattle.core_kinds.specs.Running.{MayQueue, queue_task, MayDequeue, dequeue_task, MayMove, move_task, MayClearBusy, clear_busy, MayBodyOut, body_out, MayBodyHome, body_home}
use Rattle.core_kinds.specs.Waking.{MayLoad, load_rq, load_rq_so, load_busy, load_busy_so, load_cpu, load_count, rq_read, noted_if}

pub SleepersHold-take_task : (core : Columns) (s t : ℕ) → Holds core → MayTakeTask core s t → SleepersHold (take_task core s t)
SleepersHold-take_task core s t holds may = assumption (holds.sleepers)

pub SleepersHold-give_task : (core : Columns) (s t : ℕ) (val : TaskVal) (stood done : Bool) → Holds core → MayGiveTask core s t val stood done → SleepersHold (give_task core s t val)
SleepersHold-give_task core s t val stood done holds may = assumption (holds.sleepers)

pub SleepersHold-take_queue : (core : Columns) (s c : ℕ) → Holds core → MayTakeQueue core s c → SleepersHold (take_queue core s c)
SleepersHold-take_queue core s c holds may = assumption (holds.sleepers)

pub SleepersHold-take_works : (core : Columns) (s c : ℕ) → Holds core → MayTakeWorks core s c → SleepersHold (take_works core s c)
SleepersHold-take_works core s c holds may = assumption (holds.sleepers)

pub SleepersHold-give_works : (core : Columns) (s c : ℕ) (val : List WorkItem) → Holds core → MayGiveWorks core s c val → SleepersHold (give_works core s c val)
SleepersHold-give_works core s c val holds may = assumption (holds.sleepers)

pub SleepersHold-body_out : (core : Columns) (s t : ℕ) → Holds core → MayBodyOut core s t → SleepersHold (body_out core s t)
SleepersHold-body_out core s t holds may = assumption (holds.sleepers)

pub SleepersHold-body_home : (core : Columns) (s t : ℕ) (ended : Bool) → Holds core → MayBodyHome core s t ended → SleepersHold (body_home core s t ended)
SleepersHold-body_home core s t ended holds may = assumption (holds.sleepers)

pub SleepersHold-queue_task : (core : Columns) (s c t : ℕ) → Holds core → MayQueue core s c t → SleepersHold (queue_task core s c t)
SleepersHold-queue_task core s c t holds may = assumption (holds.sleepers)

pub SleepersHold-dequeue_task : (core : Columns) (s c t : ℕ) → Holds core → MayDequeue core s c t → SleepersHold (dequeue_task core s c t)
SleepersHold-dequeue_task core s c t holds may = assumption (holds.sleepers)

pub SleepersHold-move_task : (core : Columns) (s c t : ℕ) (val : Queue) → Holds core → MayMove core s c t val → SleepersHold (move_task core s c t)
SleepersHold-move_task core s c t val holds may = assumption (holds.sleepers)

pub SleepersHold-clear_busy : (core : Columns) (s t : ℕ) → Holds core → MayClearBusy core s t → SleepersHold (clear_busy core s t)
SleepersHold-clear_busy core s t holds may = assumption (holds.sleepers)

rq_so : (core : Columns) (s t : ℕ) (a b : Bool) (old : TaskReads) (on m : ℕ) → SleepersHold core → SleepersHold (load_rq_so core s t b a old on m)
rq_so core s t a b old on m h = by_cases ((on == 0) && a) ((on == 0) && b)
  where
    by_cases : (p q : Bool) → SleepersHold (noted_if p (noted_if q (record core { last_reads = put_at core.last_reads s t (rq_read t on m old) }) s (SawOff t)) s (SawRestOff t))
    by_cases true true = assumption (h)
    by_cases true false = assumption (h)
    by_cases false true = assumption (h)
    by_cases false false = assumption (h)

pub SleepersHold-load_rq : (core : Columns) (s t : ℕ) → Holds core → MayLoad core s t → SleepersHold (load_rq core s t)
SleepersHold-load_rq core s t holds may = rq_so core s t (core.saw_rest s t) (core.is_unstored s t) (core.last_reads s t) (core.on_rq t) (core.changes t) holds.sleepers

busy_so : (core : Columns) (s t : ℕ) (rests : Bool) (old : TaskReads) (busy : Bool) → SleepersHold core → SleepersHold (load_busy_so core s t rests old busy)
busy_so core s t rests old true h = assumption (h)
busy_so core s t true old false h = assumption (h)
busy_so core s t false old false h = assumption (h)

pub SleepersHold-load_busy : (core : Columns) (s t : ℕ) → Holds core → MayLoad core s t → SleepersHold (load_busy core s t)
SleepersHold-load_busy core s t holds may = busy_so core s t (core.saw_rest_off s t) (core.last_reads s t) (core.on_cpu t) holds.sleepers

pub SleepersHold-load_cpu : (core : Columns) (s t : ℕ) → Holds core → MayLoad core s t → SleepersHold (load_cpu core s t)
SleepersHold-load_cpu core s t holds may = assumption (holds.sleepers)

pub SleepersHold-load_count : (core : Columns) (s t : ℕ) → Holds core → MayLoad core s t → SleepersHold (load_count core s t)
SleepersHold-load_count core s t holds may = assumption (holds.sleepers)
