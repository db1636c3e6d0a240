-- Each lock's value stays home, or with the seat that the lock's word names.
use Rattle.std.proofs.Common.{◌≡◌, ℕ, List, Bool, true, false, Some, None, Option}
use Rattle.std.specs.Prelude.{◌&&◌}
use Rattle.core_data.specs.Queue.{Queue}
use Rattle.core_data.specs.Columns.{Columns, put, put_at}
use Rattle.core_data.specs.declared.values.TaskVal.{TaskVal}
use Rattle.core_data.specs.declared.values.WaitEntry.{WaitEntry}
use Rattle.core_data.specs.declared.values.WorkItem.{WorkItem}
use Rattle.core_gives.specs.Queues.{MayGiveQueue, give_queue, give_up_if, gives_up}
use Rattle.core_gives.specs.Waits.{MayGiveWait, give_wait, give_by, walked_if, is_walk}
use Rattle.core_invariant.specs.Invariant.{Holds}
use Rattle.core_invariant.specs.Locks.{LocksHold}
use Rattle.core_kinds.specs.Locks.{MayTakeTask, take_task, MayGiveTask, give_task, MayTakeQueue, take_queue, unseen, MayTakeWorks, take_works, MayGiveWorks, give_works, MayTakeWait, take_wait}
use Rattle.core_kinds.specs.Running.{MayQueue, queue_task, MayDequeue, dequeue_task, MayMove, move_task, MaySetBusy, set_busy, MayClearBusy, clear_busy, MayBodyOut, body_out, MayBodyHome, body_home}
use Rattle.core_kinds.specs.Waking.{MaySetState, set_state, MayClaim, claim, MayMakeRunnable, make_runnable, MayLoad, MayStoreCpu, store_cpu, MayBump, bump, MayLoadState, load_state, load_rq}
use Rattle.core_kinds.specs.Waking.{load_busy, load_cpu, load_count, load_cond}
use Rattle.core_locks.proofs.Branches.{IsLoadFree, load_state-keeps, load_rq-keeps, load_busy-keeps, load_cond-keeps, IsOwnFree, set_state-keeps}
use Rattle.core_locks.proofs.Guards.{IsGuarded-take, IsGuarded-give}
use Rattle.handoff_data.specs.declared.state.State.{State}

-- no load changes a lock or what it guards
load_free : (s t : ℕ) → IsLoadFree LocksHold s t
load_free s t =
    record {
      reads = λ core r p. assumption (p);
      seen = λ core x p. assumption (p);
      log = λ core x p. assumption (p);
      matched = λ core p. assumption (p);
      saw_off = λ core p. assumption (p);
      saw_clear = λ core p. assumption (p);
      saw_rest = λ core p. assumption (p);
      saw_rest_off = λ core p. assumption (p);
      saw_rest_idle = λ core p. assumption (p);
      passed = λ core p. assumption (p);
    }

own_free : (s t : ℕ) → IsOwnFree LocksHold s t
own_free s t =
    record {
      forget = λ core x y p. assumption (p);
      slept = λ core p. assumption (p);
      passed = λ core p. assumption (p);
    }

pub LocksHold-take_task : (core : Columns) (s t : ℕ) → Holds core → MayTakeTask core s t → LocksHold (take_task core s t)
LocksHold-take_task core s t holds may = assumption (holds.locks, IsGuarded-take _ core.tasks core.seats core.lock core.val core.task_held s t holds.locks.tasks may.seat may.free may.home)

pub LocksHold-give_task : (core : Columns) (s t : ℕ) (val : TaskVal) (stood done : Bool) → Holds core → MayGiveTask core s t val stood done → LocksHold (give_task core s t val)
LocksHold-give_task core s t val stood done holds may = assumption (holds.locks, IsGuarded-give _ core.tasks core.seats core.lock core.val core.task_held s t val holds.locks.tasks may.locked)

pub LocksHold-take_queue : (core : Columns) (s c : ℕ) → Holds core → MayTakeQueue core s c → LocksHold (take_queue core s c)
LocksHold-take_queue core s c holds may = assumption (holds.locks, IsGuarded-take _ core.cpus core.seats core.queue_lock core.queue core.queue_held s c holds.locks.queues may.seat may.free may.home)

given_queue : (b : Bool) (core : Columns) (s c : ℕ) (queue : Queue) → LocksHold core → core.queue_lock c ≡ Some s
    → LocksHold (unseen (give_up_if b (record core { queue_lock = put core.queue_lock c None; queue = put core.queue c (Some queue); queue_held = put_at core.queue_held s c None }) s) s c)
given_queue true core s c queue locks locked = assumption (locks, IsGuarded-give _ core.cpus core.seats core.queue_lock core.queue core.queue_held s c queue locks.queues locked)
given_queue false core s c queue locks locked = assumption (locks, IsGuarded-give _ core.cpus core.seats core.queue_lock core.queue core.queue_held s c queue locks.queues locked)

pub LocksHold-give_queue : (core : Columns) (s c : ℕ) (queue : Queue) → Holds core → MayGiveQueue core s c queue → LocksHold (give_queue core s c queue)
LocksHold-give_queue core s c queue holds may = given_queue (gives_up s c queue) core s c queue holds.locks may.locked

pub LocksHold-take_wait : (core : Columns) (s k : ℕ) → Holds core → MayTakeWait core s k → LocksHold (take_wait core s k)
LocksHold-take_wait core s k holds may = assumption (holds.locks, IsGuarded-take _ core.conds core.seats core.wait_lock core.wait core.wait_held s k holds.locks.waits may.seat may.free may.home)

walked : (b : Bool) (core : Columns) (s k : ℕ) → LocksHold core → LocksHold (walked_if b core s k)
walked true core s k locks = assumption (locks)
walked false core s k locks = locks

given_wait : (core : Columns) (s k : ℕ) (given : List WaitEntry) (o : Option (List WaitEntry)) → LocksHold core → core.wait_lock k ≡ Some s → LocksHold (give_by core s k given o)
given_wait core s k given None locks locked = locks
given_wait core s k given (Some taken) locks locked =
    walked (core.owes_walk s k && (core.has_retaken s k && is_walk (core.has_passed s k) taken)) _ s k
    (assumption (locks, IsGuarded-give _ core.conds core.seats core.wait_lock core.wait core.wait_held s k given locks.waits locked))

pub LocksHold-give_wait : (core : Columns) (s k : ℕ) (given : List WaitEntry) → Holds core → MayGiveWait core s k given → LocksHold (give_wait core s k given)
LocksHold-give_wait core s k given holds may = given_wait core s k given (core.wait_held s k) holds.locks may.locked

pub LocksHold-take_works : (core : Columns) (s c : ℕ) → Holds core → MayTakeWorks core s c → LocksHold (take_works core s c)
LocksHold-take_works core s c holds may = assumption (holds.locks, IsGuarded-take _ core.cpus core.seats core.works_lock core.works core.works_held s c holds.locks.works may.seat may.free may.home)

pub LocksHold-give_works : (core : Columns) (s c : ℕ) (val : List WorkItem) → Holds core → MayGiveWorks core s c val → LocksHold (give_works core s c val)
LocksHold-give_works core s c val holds may = assumption (holds.locks, IsGuarded-give _ core.cpus core.seats core.works_lock core.works core.works_held s c val holds.locks.works may.locked)

pub LocksHold-body_out : (core : Columns) (s t : ℕ) → Holds core → MayBodyOut core s t → LocksHold (body_out core s t)
LocksHold-body_out core s t holds may = assumption (holds.locks)

pub LocksHold-body_home : (core : Columns) (s t : ℕ) (ended : Bool) → Holds core → MayBodyHome core s t ended → LocksHold (body_home core s t ended)
LocksHold-body_home core s t ended holds may = assumption (holds.locks)

pub LocksHold-queue_task : (core : Columns) (s c t : ℕ) → Holds core → MayQueue core s c t → LocksHold (queue_task core s c t)
LocksHold-queue_task core s c t holds may = assumption (holds.locks)

pub LocksHold-dequeue_task : (core : Columns) (s c t : ℕ) → Holds core → MayDequeue core s c t → LocksHold (dequeue_task core s c t)
LocksHold-dequeue_task core s c t holds may = assumption (holds.locks)

pub LocksHold-move_task : (core : Columns) (s c t : ℕ) (val : Queue) → Holds core → MayMove core s c t val → LocksHold (move_task core s c t)
LocksHold-move_task core s c t val holds may = assumption (holds.locks)

pub LocksHold-set_busy : (core : Columns) (s c t : ℕ) (val : Queue) → Holds core → MaySetBusy core s c t val → LocksHold (set_busy core s c t)
LocksHold-set_busy core s c t val holds may = assumption (holds.locks)

pub LocksHold-clear_busy : (core : Columns) (s t : ℕ) → Holds core → MayClearBusy core s t → LocksHold (clear_busy core s t)
LocksHold-clear_busy core s t holds may = assumption (holds.locks)

pub LocksHold-set_state : (core : Columns) (s t : ℕ) (state : State) → Holds core → MaySetState core s t state → LocksHold (set_state core s t state)
LocksHold-set_state core s t state holds may = set_state-keeps LocksHold core s t state (own_free s t) (assumption (holds.locks))

pub LocksHold-claim : (core : Columns) (s t : ℕ) → Holds core → MayClaim core s t → LocksHold (claim core s t)
LocksHold-claim core s t holds may = assumption (holds.locks)

pub LocksHold-make_runnable : (core : Columns) (s t : ℕ) → Holds core → MayMakeRunnable core s t → LocksHold (make_runnable core s t)
LocksHold-make_runnable core s t holds may = assumption (holds.locks)

pub LocksHold-load_state : (core : Columns) (s t : ℕ) (mask : Option State) → Holds core → MayLoadState core s t mask → LocksHold (load_state core s t mask)
LocksHold-load_state core s t mask holds may = load_state-keeps LocksHold core s t mask (load_free s t) holds.locks

pub LocksHold-load_rq : (core : Columns) (s t : ℕ) → Holds core → MayLoad core s t → LocksHold (load_rq core s t)
LocksHold-load_rq core s t holds may = load_rq-keeps LocksHold core s t (load_free s t) holds.locks

pub LocksHold-load_busy : (core : Columns) (s t : ℕ) → Holds core → MayLoad core s t → LocksHold (load_busy core s t)
LocksHold-load_busy core s t holds may = load_busy-keeps LocksHold core s t (load_free s t) holds.locks

pub LocksHold-load_cpu : (core : Columns) (s t : ℕ) → Holds core → MayLoad core s t → LocksHold (load_cpu core s t)
LocksHold-load_cpu core s t holds may = assumption (holds.locks)

pub LocksHold-load_count : (core : Columns) (s t : ℕ) → Holds core → MayLoad core s t → LocksHold (load_count core s t)
LocksHold-load_count core s t holds may = assumption (holds.locks)

pub LocksHold-store_cpu : (core : Columns) (s t c : ℕ) → Holds core → MayStoreCpu core s t c → LocksHold (store_cpu core s t c)
LocksHold-store_cpu core s t c holds may = assumption (holds.locks)

pub LocksHold-bump : (core : Columns) (s k : ℕ) → Holds core → MayBump core s k → LocksHold (bump core s k)
LocksHold-bump core s k holds may = assumption (holds.locks)

pub LocksHold-load_cond : (core : Columns) (s k : ℕ) → Holds core → MayBump core s k → LocksHold (load_cond core s k)
LocksHold-load_cond core s k holds may = load_cond-keeps LocksHold core s k (λ next x p. assumption (p)) holds.locks
