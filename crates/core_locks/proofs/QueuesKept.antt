-- The queues keep the tasks that are queued there.
use Rattle.std.proofs.Common.{◌≡◌, ◌≢◌, ℕ, ◌<◌, ◌+◌, ◌++◌, List, [], ◌∷◌, length, Bool, true, false, Some, None, Option, refl, arith}
use Rattle.std.specs.Prelude.{◌&&◌}
use Rattle.core_data.specs.Noted.{noted}
use Rattle.core_data.specs.Queue.{Queue}
use Rattle.core_data.specs.Columns.{Columns, put, put_at}
use Rattle.core_data.specs.declared.act.Act.TheVariants.{Dequeued}
use Rattle.core_data.specs.declared.values.TaskVal.{TaskVal}
use Rattle.core_data.specs.declared.values.WaitEntry.{WaitEntry}
use Rattle.core_data.specs.declared.values.WorkItem.{WorkItem}
use Rattle.core_gives.specs.Queues.{IsQueueOf, MayGiveQueue, give_queue, give_up_if, gives_up}
use Rattle.core_gives.specs.Waits.{MayGiveWait, give_wait, give_by, walked_if, is_walk}
use Rattle.core_invariant.proofs.Logs.{logged}
use Rattle.core_invariant.specs.Histories.{history}
use Rattle.core_invariant.specs.Invariant.{Holds}
use Rattle.core_invariant.specs.Queues.{QueuesHold, AddedTasks}
use Rattle.core_kinds.specs.Locks.{MayTakeTask, take_task, MayGiveTask, give_task, MayTakeQueue, take_queue, unseen, MayTakeWorks, take_works, MayGiveWorks, give_works, MayTakeWait, take_wait}
use Rattle.core_kinds.specs.Running.{MayQueue, queue_task, queue_entry, store_rq, MayDequeue, dequeue_task, dequeue_entry, MayMove, move_task, MaySetBusy, set_busy, MayClearBusy, clear_busy}
use Rattle.core_kinds.specs.Running.{MayBodyOut, body_out, MayBodyHome, body_home}
use Rattle.core_kinds.specs.Waking.{MaySetState, set_state, MayClaim, claim, MayMakeRunnable, make_runnable, MayLoad, MayStoreCpu, store_cpu, MayBump, bump, MayLoadState, load_state, load_rq}
use Rattle.core_kinds.specs.Waking.{load_busy, load_cpu, load_count, load_cond}
use Rattle.core_locks.proofs.AddedParts.{AddedTasks-log, AddedTasks-take, AddedTasks-give, AddedTasks-place, AddedTasks-queue, AddedTasks-off, queue_entry-puts, dequeue_entry-change}
use Rattle.core_locks.proofs.Branches.{IsLoadFree, load_state-keeps, load_rq-keeps, load_busy-keeps, load_cond-keeps, IsOwnFree, set_state-keeps}
use Rattle.core_locks.proofs.Found.{only_out, off_placeable}
use Rattle.core_locks.proofs.QueueParts.{HomeQueues-take, HomeQueues-give, HomeQueues-store, HomeQueues-place, LeftQueues-take, LeftQueues-give, LeftQueues-queue}
use Rattle.core_locks.proofs.QueueParts.{LeftQueues-off, LeftQueues-place, DroppedTasks-take, DroppedTasks-give, DroppedTasks-queue, DroppedTasks-off, DroppedTasks-place}
use Rattle.handoff_data.specs.History.{History}
use Rattle.handoff_data.specs.Numbers.{change_of}
use Rattle.handoff_data.specs.declared.entry.Entry.{Entry}
use Rattle.handoff_data.specs.declared.entry.Entry.TheVariants.{Out, Pick, Finish, Wake, Refused}
use Rattle.handoff_data.specs.declared.state.State.{State}

-- the journals of a core, and with one entry more
abbrev journals_of : Columns → History
journals_of core = history core.cpus core.tasks core.seats core.journal

abbrev journals_with : Columns → ℕ → Entry → History
journals_with core s e = history core.cpus core.tasks core.seats (put core.journal s (core.journal s ++ e ∷ []))

-- an entry that is no change of a task's queue word
log_kept : (core : Columns) (s : ℕ) (e : Entry) → s < core.seats → change_of e ≡ None
    → AddedTasks core.on_rq core.cpu core.queue_lock core.is_requeued core.has_added (journals_of core)
    → AddedTasks core.on_rq core.cpu core.queue_lock core.is_requeued core.has_added (journals_with core s e)
log_kept core s e seat none p =
    AddedTasks-log core.on_rq core.cpu core.queue_lock core.is_requeued core.has_added (journals_of core) (journals_with core s e) s (length (core.journal s)) e
    p (logged core.cpus core.tasks core.seats core.journal s e seat) none

-- with a seat that is there
abbrev Seated : ℕ → Columns → Type 0
Seated s core = (s < core.seats) × QueuesHold core

-- a load changes no queue, but for an entry that it may add
load_free : (s t : ℕ) → IsLoadFree (Seated s) s t
load_free s t =
    record {
      reads = λ core r p. (p.0, assumption (p.1));
      seen = λ core x p. (p.0, assumption (p.1));
      log = λ core x p. (p.0, assumption (p.1, log_kept core s (Refused t x) p.0 refl p.1.added));
      matched = λ core p. (p.0, assumption (p.1));
      saw_off = λ core p. (p.0, assumption (p.1));
      saw_clear = λ core p. (p.0, assumption (p.1));
      saw_rest = λ core p. (p.0, assumption (p.1));
      saw_rest_off = λ core p. (p.0, assumption (p.1));
      saw_rest_idle = λ core p. (p.0, assumption (p.1));
      passed = λ core p. (p.0, assumption (p.1));
    }

own_free : (s t : ℕ) → IsOwnFree QueuesHold s t
own_free s t =
    record {
      forget = λ core x y p. assumption (p);
      slept = λ core p. assumption (p);
      passed = λ core p. assumption (p);
    }

pub QueuesHold-take_task : (core : Columns) (s t : ℕ) → Holds core → MayTakeTask core s t → QueuesHold (take_task core s t)
QueuesHold-take_task core s t holds may = assumption (holds.queues)

pub QueuesHold-give_task : (core : Columns) (s t : ℕ) (val : TaskVal) (stood done : Bool) → Holds core → MayGiveTask core s t val stood done → QueuesHold (give_task core s t val)
QueuesHold-give_task core s t val stood done holds may = assumption (holds.queues)

pub QueuesHold-take_queue : (core : Columns) (s c : ℕ) → Holds core → MayTakeQueue core s c → QueuesHold (take_queue core s c)
QueuesHold-take_queue core s c holds may =
    assumption (
      HomeQueues-take core.on_rq core.cpu core.queue c holds.queues.at_home,
      LeftQueues-take core.on_rq core.cpu core.queue core.queue_held core.has_added core.has_dropped s c holds.queues.left holds.queues.at_home,
      DroppedTasks-take core.on_rq core.cpu core.queue_lock core.is_requeued core.has_dropped s c holds.queues.dropped,
      AddedTasks-take core.on_rq core.cpu core.queue_lock core.is_requeued core.has_added (journals_of core) s c holds.queues.added,
    )

given_queue : (b : Bool) (core : Columns) (s c : ℕ) (queue : Queue) → QueuesHold core → IsQueueOf core.on_rq core.cpu c queue
    → QueuesHold (unseen (give_up_if b (record core { queue_lock = put core.queue_lock c None; queue = put core.queue c (Some queue); queue_held = put_at core.queue_held s c None }) s) s c)
given_queue true core s c queue queues fits =
    assumption (
      HomeQueues-give core.on_rq core.cpu core.queue c queue queues.at_home fits,
      LeftQueues-give core.on_rq core.cpu core.queue_held core.has_added core.has_dropped s c queues.left,
      DroppedTasks-give core.on_rq core.cpu core.queue_lock core.is_requeued core.has_dropped c queues.dropped,
      AddedTasks-give core.on_rq core.cpu core.queue_lock core.is_requeued core.has_added (journals_of core) c queues.added,
    )
given_queue false core s c queue queues fits =
    assumption (
      HomeQueues-give core.on_rq core.cpu core.queue c queue queues.at_home fits,
      LeftQueues-give core.on_rq core.cpu core.queue_held core.has_added core.has_dropped s c queues.left,
      DroppedTasks-give core.on_rq core.cpu core.queue_lock core.is_requeued core.has_dropped c queues.dropped,
      AddedTasks-give core.on_rq core.cpu core.queue_lock core.is_requeued core.has_added (journals_of core) c queues.added,
    )

pub QueuesHold-give_queue : (core : Columns) (s c : ℕ) (queue : Queue) → Holds core → MayGiveQueue core s c queue → QueuesHold (give_queue core s c queue)
QueuesHold-give_queue core s c queue holds may = given_queue (gives_up s c queue) core s c queue holds.queues may.fits

pub QueuesHold-take_wait : (core : Columns) (s k : ℕ) → Holds core → MayTakeWait core s k → QueuesHold (take_wait core s k)
QueuesHold-take_wait core s k holds may = assumption (holds.queues)

walked : (b : Bool) (core : Columns) (s k : ℕ) → QueuesHold core → QueuesHold (walked_if b core s k)
walked true core s k queues = assumption (queues)
walked false core s k queues = queues

given_wait : (core : Columns) (s k : ℕ) (given : List WaitEntry) (o : Option (List WaitEntry)) → QueuesHold core → QueuesHold (give_by core s k given o)
given_wait core s k given None queues = queues
given_wait core s k given (Some taken) queues = walked (core.owes_walk s k && (core.has_retaken s k && is_walk (core.has_passed s k) taken)) _ s k (assumption (queues))

pub QueuesHold-give_wait : (core : Columns) (s k : ℕ) (given : List WaitEntry) → Holds core → MayGiveWait core s k given → QueuesHold (give_wait core s k given)
QueuesHold-give_wait core s k given holds may = given_wait core s k given (core.wait_held s k) holds.queues

pub QueuesHold-take_works : (core : Columns) (s c : ℕ) → Holds core → MayTakeWorks core s c → QueuesHold (take_works core s c)
QueuesHold-take_works core s c holds may = assumption (holds.queues)

pub QueuesHold-give_works : (core : Columns) (s c : ℕ) (val : List WorkItem) → Holds core → MayGiveWorks core s c val → QueuesHold (give_works core s c val)
QueuesHold-give_works core s c val holds may = assumption (holds.queues)

pub QueuesHold-body_out : (core : Columns) (s t : ℕ) → Holds core → MayBodyOut core s t → QueuesHold (body_out core s t)
QueuesHold-body_out core s t holds may = assumption (holds.queues)

pub QueuesHold-body_home : (core : Columns) (s t : ℕ) (ended : Bool) → Holds core → MayBodyHome core s t ended → QueuesHold (body_home core s t ended)
QueuesHold-body_home core s t ended holds may = assumption (holds.queues)

pub QueuesHold-queue_task : (core : Columns) (s c t : ℕ) → Holds core → MayQueue core s c t → QueuesHold (queue_task core s c t)
QueuesHold-queue_task core s c t holds may =
    let entry = queue_entry (core.changes t) (core.on_rq t) t c in
    let only = only_out _ core.cpus core.seats core.queue_lock core.queue core.queue_held s c holds.locks.queues may.locked in
    assumption (
      HomeQueues-store core.on_rq core.cpu core.queue c t 1 holds.queues.at_home (holds.locks.queues.held_away c s may.locked) may.here,
      LeftQueues-queue core.on_rq core.cpu core.queue_held core.has_added core.has_dropped s c t holds.queues.left only may.here may.off,
      DroppedTasks-queue core.on_rq core.cpu core.queue_lock core.is_requeued core.has_dropped s c t holds.queues.dropped may.locked may.here,
      AddedTasks-queue core.on_rq core.cpu core.changes core.queue_lock core.is_requeued core.has_added (journals_of core)
          (journals_with core s entry) s (length (core.journal s)) entry t c holds.queues.added
          (logged core.cpus core.tasks core.seats core.journal s entry may.seat) holds.journals.numbered.change (queue_entry-puts (core.changes t) (core.on_rq t) t c) may.here may.off,
    )

-- t leaves the queue of c
left_queue : (core : Columns) (s c t on : ℕ) (entry : Entry) → Holds core → s < core.seats → core.queue_lock c ≡ Some s → core.cpu t ≡ c → on ≢ 1 → change_of entry ≡ Some (t, core.changes t + 1)
    → QueuesHold (noted (store_rq core s t on entry) s (Dequeued t))
left_queue core s c t on entry holds seat locked here off change =
    let only = only_out _ core.cpus core.seats core.queue_lock core.queue core.queue_held s c holds.locks.queues locked in
    assumption (
      HomeQueues-store core.on_rq core.cpu core.queue c t on holds.queues.at_home (holds.locks.queues.held_away c s locked) here,
      LeftQueues-off core.on_rq core.cpu core.queue_held core.has_added core.has_dropped s c t on holds.queues.left only here off,
      DroppedTasks-off core.on_rq core.cpu core.queue_lock core.is_requeued core.has_dropped s t on holds.queues.dropped off,
      AddedTasks-off core.on_rq core.cpu core.queue_lock core.is_requeued core.has_added (journals_of core)
          (journals_with core s entry) s (length (core.journal s)) entry t (core.changes t + 1) c on holds.queues.added
          (logged core.cpus core.tasks core.seats core.journal s entry seat) change locked here,
    )

pub QueuesHold-dequeue_task : (core : Columns) (s c t : ℕ) → Holds core → MayDequeue core s c t → QueuesHold (dequeue_task core s c t)
QueuesHold-dequeue_task core s c t holds may =
    left_queue core s c t 0 (dequeue_entry (core.seen_state s) (core.changes t) t c) holds may.seat may.locked may.here
    (λ h. grind (arith, h)) (dequeue_entry-change (core.seen_state s) (core.changes t) t c)

pub QueuesHold-move_task : (core : Columns) (s c t : ℕ) (val : Queue) → Holds core → MayMove core s c t val → QueuesHold (move_task core s c t)
QueuesHold-move_task core s c t val holds may = left_queue core s c t 2 (Out t (core.changes t + 1) c) holds may.seat may.locked may.here (λ h. grind (arith, h)) refl

pub QueuesHold-set_busy : (core : Columns) (s c t : ℕ) (val : Queue) → Holds core → MaySetBusy core s c t val → QueuesHold (set_busy core s c t)
QueuesHold-set_busy core s c t val holds may = assumption (holds.queues, log_kept core s (Pick t (core.runs t + 1) c) may.seat refl holds.queues.added)

pub QueuesHold-clear_busy : (core : Columns) (s t : ℕ) → Holds core → MayClearBusy core s t → QueuesHold (clear_busy core s t)
QueuesHold-clear_busy core s t holds may = assumption (holds.queues, log_kept core s (Finish t (core.runs t + 1) s) may.seat refl holds.queues.added)

pub QueuesHold-set_state : (core : Columns) (s t : ℕ) (state : State) → Holds core → MaySetState core s t state → QueuesHold (set_state core s t state)
QueuesHold-set_state core s t state holds may = set_state-keeps QueuesHold core s t state (own_free s t) (assumption (holds.queues))

pub QueuesHold-claim : (core : Columns) (s t : ℕ) → Holds core → MayClaim core s t → QueuesHold (claim core s t)
QueuesHold-claim core s t holds may = assumption (holds.queues, log_kept core s (Wake t (core.changes t)) may.seat refl holds.queues.added)

pub QueuesHold-make_runnable : (core : Columns) (s t : ℕ) → Holds core → MayMakeRunnable core s t → QueuesHold (make_runnable core s t)
QueuesHold-make_runnable core s t holds may = assumption (holds.queues)

pub QueuesHold-load_state : (core : Columns) (s t : ℕ) (mask : Option State) → Holds core → MayLoadState core s t mask → QueuesHold (load_state core s t mask)
QueuesHold-load_state core s t mask holds may = (load_state-keeps (Seated s) core s t mask (load_free s t) (may.seat, holds.queues)).1

pub QueuesHold-load_rq : (core : Columns) (s t : ℕ) → Holds core → MayLoad core s t → QueuesHold (load_rq core s t)
QueuesHold-load_rq core s t holds may = (load_rq-keeps (Seated s) core s t (load_free s t) (may.seat, holds.queues)).1

pub QueuesHold-load_busy : (core : Columns) (s t : ℕ) → Holds core → MayLoad core s t → QueuesHold (load_busy core s t)
QueuesHold-load_busy core s t holds may = (load_busy-keeps (Seated s) core s t (load_free s t) (may.seat, holds.queues)).1

pub QueuesHold-load_cpu : (core : Columns) (s t : ℕ) → Holds core → MayLoad core s t → QueuesHold (load_cpu core s t)
QueuesHold-load_cpu core s t holds may = assumption (holds.queues)

pub QueuesHold-load_count : (core : Columns) (s t : ℕ) → Holds core → MayLoad core s t → QueuesHold (load_count core s t)
QueuesHold-load_count core s t holds may = assumption (holds.queues)

pub QueuesHold-store_cpu : (core : Columns) (s t c : ℕ) → Holds core → MayStoreCpu core s t c → QueuesHold (store_cpu core s t c)
QueuesHold-store_cpu core s t c holds may =
    let off = off_placeable core s t holds may.placeable in
    assumption (
      HomeQueues-place core.on_rq core.cpu core.queue t c holds.queues.at_home off,
      LeftQueues-place core.on_rq core.cpu core.queue_held core.has_added core.has_dropped t c holds.queues.left off,
      DroppedTasks-place core.on_rq core.cpu core.queue_lock core.is_requeued core.has_dropped t c holds.queues.dropped off,
      AddedTasks-place core.on_rq core.cpu core.queue_lock core.is_requeued core.has_added (journals_of core) t c holds.queues.added off,
    )

pub QueuesHold-bump : (core : Columns) (s k : ℕ) → Holds core → MayBump core s k → QueuesHold (bump core s k)
QueuesHold-bump core s k holds may = assumption (holds.queues)

pub QueuesHold-load_cond : (core : Columns) (s k : ℕ) → Holds core → MayBump core s k → QueuesHold (load_cond core s k)
QueuesHold-load_cond core s k holds may = load_cond-keeps QueuesHold core s k (λ next x p. assumption (p)) holds.queues
