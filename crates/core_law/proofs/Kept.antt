-- Each kind of step keeps the invariant, and the opening core meets it.
use Rattle.std.proofs.Common.{ℕ, Bool, List, Option}
use Rattle.core_journals.proofs.Loads.{JournalsHold-bump, JournalsHold-load_busy, JournalsHold-load_cond, JournalsHold-load_count, JournalsHold-load_cpu, JournalsHold-load_rq, JournalsHold-load_state}
use Rattle.core_journals.proofs.Locks.{JournalsHold-body_home, JournalsHold-body_out, JournalsHold-give_queue, JournalsHold-give_task, JournalsHold-give_wait, JournalsHold-give_works}
use Rattle.core_journals.proofs.Locks.{JournalsHold-take_queue, JournalsHold-take_task, JournalsHold-take_wait, JournalsHold-take_works}
use Rattle.core_journals.proofs.Running.{JournalsHold-clear_busy, JournalsHold-dequeue_task, JournalsHold-move_task, JournalsHold-queue_task, JournalsHold-set_busy}
use Rattle.core_journals.proofs.Start.{JournalsHold-start}
use Rattle.core_journals.proofs.Waking.{JournalsHold-claim, JournalsHold-set_state, JournalsHold-make_runnable, JournalsHold-store_cpu}
use Rattle.core_locks.proofs.BusyKept.{BusyHolds-body_home, BusyHolds-body_out, BusyHolds-bump, BusyHolds-claim, BusyHolds-clear_busy, BusyHolds-dequeue_task, BusyHolds-give_queue}
use Rattle.core_locks.proofs.BusyKept.{BusyHolds-give_task}
use Rattle.core_locks.proofs.BusyKept.{BusyHolds-give_wait, BusyHolds-give_works, BusyHolds-load_busy, BusyHolds-load_cond, BusyHolds-load_count, BusyHolds-load_cpu, BusyHolds-load_rq}
use Rattle.core_locks.proofs.BusyKept.{BusyHolds-load_state}
use Rattle.core_locks.proofs.BusyKept.{BusyHolds-move_task, BusyHolds-set_state, BusyHolds-queue_task, BusyHolds-make_runnable, BusyHolds-set_busy, BusyHolds-store_cpu, BusyHolds-take_queue}
use Rattle.core_locks.proofs.BusyKept.{BusyHolds-take_task, BusyHolds-take_wait, BusyHolds-take_works}
use Rattle.core_locks.proofs.LocksKept.{LocksHold-body_home, LocksHold-body_out, LocksHold-bump, LocksHold-claim, LocksHold-clear_busy, LocksHold-dequeue_task, LocksHold-give_queue}
use Rattle.core_locks.proofs.LocksKept.{LocksHold-give_task, LocksHold-give_wait, LocksHold-give_works, LocksHold-load_busy, LocksHold-load_cond, LocksHold-load_count, LocksHold-load_cpu}
use Rattle.core_locks.proofs.LocksKept.{LocksHold-load_rq}
use Rattle.core_locks.proofs.LocksKept.{LocksHold-load_state, LocksHold-move_task, LocksHold-set_state, LocksHold-queue_task, LocksHold-make_runnable, LocksHold-set_busy, LocksHold-store_cpu}
use Rattle.core_locks.proofs.LocksKept.{LocksHold-take_queue, LocksHold-take_task, LocksHold-take_wait, LocksHold-take_works}
use Rattle.core_locks.proofs.Opening.{BusyHolds-start, LocksHold-start, QueuesHold-start, ShapesHold-start}
use Rattle.core_locks.proofs.QueuesKept.{QueuesHold-body_home, QueuesHold-body_out, QueuesHold-bump, QueuesHold-claim, QueuesHold-clear_busy, QueuesHold-dequeue_task, QueuesHold-give_queue}
use Rattle.core_locks.proofs.QueuesKept.{QueuesHold-give_task, QueuesHold-give_wait, QueuesHold-give_works, QueuesHold-load_busy, QueuesHold-load_cond, QueuesHold-load_count, QueuesHold-load_cpu}
use Rattle.core_locks.proofs.QueuesKept.{QueuesHold-load_rq}
use Rattle.core_locks.proofs.QueuesKept.{QueuesHold-load_state, QueuesHold-move_task, QueuesHold-set_state, QueuesHold-queue_task, QueuesHold-make_runnable, QueuesHold-set_busy, QueuesHold-store_cpu}
use Rattle.core_locks.proofs.QueuesKept.{QueuesHold-take_queue, QueuesHold-take_task, QueuesHold-take_wait, QueuesHold-take_works}
use Rattle.core_locks.proofs.ShapesKept.{ShapesHold-body_home, ShapesHold-body_out, ShapesHold-bump, ShapesHold-claim, ShapesHold-clear_busy, ShapesHold-dequeue_task, ShapesHold-give_queue}
use Rattle.core_locks.proofs.ShapesKept.{ShapesHold-give_task, ShapesHold-give_wait, ShapesHold-give_works, ShapesHold-load_busy, ShapesHold-load_cond, ShapesHold-load_count, ShapesHold-load_cpu}
use Rattle.core_locks.proofs.ShapesKept.{ShapesHold-load_rq}
use Rattle.core_locks.proofs.ShapesKept.{ShapesHold-load_state, ShapesHold-move_task, ShapesHold-set_state, ShapesHold-queue_task, ShapesHold-make_runnable, ShapesHold-set_busy, ShapesHold-store_cpu}
use Rattle.core_locks.proofs.ShapesKept.{ShapesHold-take_queue, ShapesHold-take_task, ShapesHold-take_wait, ShapesHold-take_works}
use Rattle.core_places.proofs.Loads.{PositionsHold-load_busy, PositionsHold-load_rq, PositionsHold-load_state}
use Rattle.core_places.proofs.Places.{PlacesHold-body_home, PlacesHold-body_out, PlacesHold-bump, PlacesHold-claim, PlacesHold-clear_busy, PlacesHold-dequeue_task, PlacesHold-give_task}
use Rattle.core_places.proofs.Places.{PlacesHold-give_works, PlacesHold-load_count, PlacesHold-load_cpu, PlacesHold-move_task, PlacesHold-queue_task, PlacesHold-make_runnable, PlacesHold-set_busy}
use Rattle.core_places.proofs.Places.{PlacesHold-store_cpu}
use Rattle.core_places.proofs.Places.{PlacesHold-take_queue, PlacesHold-take_task, PlacesHold-take_wait, PlacesHold-take_works}
use Rattle.core_places.proofs.PlacesByTests.{PlacesHold-give_queue, PlacesHold-give_wait, PlacesHold-load_busy, PlacesHold-load_cond, PlacesHold-load_rq, PlacesHold-load_state, PlacesHold-set_state}
use Rattle.core_places.proofs.Positions.{PositionsHold-body_home, PositionsHold-body_out, PositionsHold-bump, PositionsHold-claim, PositionsHold-clear_busy, PositionsHold-dequeue_task}
use Rattle.core_places.proofs.Positions.{PositionsHold-give_task, PositionsHold-give_works, PositionsHold-load_count, PositionsHold-load_cpu, PositionsHold-move_task, PositionsHold-queue_task}
use Rattle.core_places.proofs.Positions.{PositionsHold-make_runnable}
use Rattle.core_places.proofs.Positions.{PositionsHold-set_busy, PositionsHold-store_cpu, PositionsHold-take_queue, PositionsHold-take_task, PositionsHold-take_wait, PositionsHold-take_works}
use Rattle.core_places.proofs.PositionsByTests.{PositionsHold-give_queue, PositionsHold-give_wait, PositionsHold-load_cond, PositionsHold-set_state}
use Rattle.core_places.proofs.StartOfPlaces.{PlacesHold-start, PositionsHold-start}
use Rattle.core_sleepers.proofs.Conditions.{SleepersHold-bump, SleepersHold-load_cond, SleepersHold-store_cpu}
use Rattle.core_sleepers.proofs.Gives.{SleepersHold-give_wait}
use Rattle.core_sleepers.proofs.Opens.{SleepersHold-start}
use Rattle.core_sleepers.proofs.Passes.{SleepersHold-load_state}
use Rattle.core_sleepers.proofs.Still.{SleepersHold-body_home, SleepersHold-body_out, SleepersHold-clear_busy, SleepersHold-dequeue_task, SleepersHold-give_task, SleepersHold-give_works}
use Rattle.core_sleepers.proofs.Still.{SleepersHold-load_busy, SleepersHold-load_count, SleepersHold-load_cpu, SleepersHold-load_rq, SleepersHold-move_task, SleepersHold-queue_task}
use Rattle.core_sleepers.proofs.Still.{SleepersHold-take_queue}
use Rattle.core_sleepers.proofs.Still.{SleepersHold-take_task, SleepersHold-take_works}
use Rattle.core_sleepers.proofs.Stores.{SleepersHold-claim, SleepersHold-give_queue, SleepersHold-set_state, SleepersHold-make_runnable, SleepersHold-set_busy}
use Rattle.core_sleepers.proofs.Takes.{SleepersHold-take_wait}
use Rattle.core_data.specs.Opening.{IsStart}
use Rattle.core_data.specs.Queue.{Queue}
use Rattle.core_data.specs.Columns.{Columns}
use Rattle.core_data.specs.declared.values.TaskVal.{TaskVal}
use Rattle.core_data.specs.declared.values.WaitEntry.{WaitEntry}
use Rattle.core_data.specs.declared.values.WorkItem.{WorkItem}
use Rattle.core_gives.specs.Queues.{MayGiveQueue, give_queue}
use Rattle.core_gives.specs.Waits.{MayGiveWait, give_wait}
use Rattle.core_invariant.specs.Invariant.{Holds}
use Rattle.core_kinds.specs.Locks.{MayTakeTask, take_task, MayGiveTask, give_task, MayTakeQueue, take_queue, MayTakeWait, take_wait, MayTakeWorks, take_works, MayGiveWorks, give_works}
use Rattle.core_kinds.specs.Running.{MayQueue, queue_task, MayDequeue, dequeue_task, MayMove, move_task, MaySetBusy, set_busy, MayClearBusy, clear_busy, MayBodyOut, body_out, MayBodyHome, body_home}
use Rattle.core_kinds.specs.Waking.{MaySetState, set_state, MayClaim, claim, MayMakeRunnable, make_runnable, MayLoad, MayLoadState, load_state, load_rq, load_busy, load_cpu, load_count, MayStoreCpu}
use Rattle.core_kinds.specs.Waking.{store_cpu, MayBump, bump, load_cond}
use Rattle.handoff_data.specs.Shape.{IsShape}
use Rattle.handoff_data.specs.declared.shape.Shape.{Shape}
use Rattle.handoff_data.specs.declared.state.State.{State}

pub Holds-take_task : (core : Columns) (s t : ℕ) → Holds core → MayTakeTask core s t → Holds (take_task core s t)
Holds-take_task core s t holds may =
    record {
      shapes = ShapesHold-take_task core s t holds may;
      locks = LocksHold-take_task core s t holds may;
      queues = QueuesHold-take_task core s t holds may;
      busy = BusyHolds-take_task core s t holds may;
      places = PlacesHold-take_task core s t holds may;
      positions = PositionsHold-take_task core s t holds may;
      journals = JournalsHold-take_task core s t holds may;
      sleepers = SleepersHold-take_task core s t holds may;
    }

pub Holds-give_task : (core : Columns) (s t : ℕ) (val : TaskVal) (stood done : Bool) → Holds core → MayGiveTask core s t val stood done → Holds (give_task core s t val)
Holds-give_task core s t val stood done holds may =
    record {
      shapes = ShapesHold-give_task core s t val stood done holds may;
      locks = LocksHold-give_task core s t val stood done holds may;
      queues = QueuesHold-give_task core s t val stood done holds may;
      busy = BusyHolds-give_task core s t val stood done holds may;
      places = PlacesHold-give_task core s t val stood done holds may;
      positions = PositionsHold-give_task core s t val stood done holds may;
      journals = JournalsHold-give_task core s t val stood done holds may;
      sleepers = SleepersHold-give_task core s t val stood done holds may;
    }

pub Holds-take_queue : (core : Columns) (s c : ℕ) → Holds core → MayTakeQueue core s c → Holds (take_queue core s c)
Holds-take_queue core s c holds may =
    record {
      shapes = ShapesHold-take_queue core s c holds may;
      locks = LocksHold-take_queue core s c holds may;
      queues = QueuesHold-take_queue core s c holds may;
      busy = BusyHolds-take_queue core s c holds may;
      places = PlacesHold-take_queue core s c holds may;
      positions = PositionsHold-take_queue core s c holds may;
      journals = JournalsHold-take_queue core s c holds may;
      sleepers = SleepersHold-take_queue core s c holds may;
    }

pub Holds-give_queue : (core : Columns) (s c : ℕ) (queue : Queue) → Holds core → MayGiveQueue core s c queue → Holds (give_queue core s c queue)
Holds-give_queue core s c queue holds may =
    record {
      shapes = ShapesHold-give_queue core s c queue holds may;
      locks = LocksHold-give_queue core s c queue holds may;
      queues = QueuesHold-give_queue core s c queue holds may;
      busy = BusyHolds-give_queue core s c queue holds may;
      places = PlacesHold-give_queue core s c queue holds may;
      positions = PositionsHold-give_queue core s c queue holds may;
      journals = JournalsHold-give_queue core s c queue holds may;
      sleepers = SleepersHold-give_queue core s c queue holds may;
    }

pub Holds-take_wait : (core : Columns) (s k : ℕ) → Holds core → MayTakeWait core s k → Holds (take_wait core s k)
Holds-take_wait core s k holds may =
    record {
      shapes = ShapesHold-take_wait core s k holds may;
      locks = LocksHold-take_wait core s k holds may;
      queues = QueuesHold-take_wait core s k holds may;
      busy = BusyHolds-take_wait core s k holds may;
      places = PlacesHold-take_wait core s k holds may;
      positions = PositionsHold-take_wait core s k holds may;
      journals = JournalsHold-take_wait core s k holds may;
      sleepers = SleepersHold-take_wait core s k holds may;
    }

pub Holds-give_wait : (core : Columns) (s k : ℕ) (given : List WaitEntry) → Holds core → MayGiveWait core s k given → Holds (give_wait core s k given)
Holds-give_wait core s k given holds may =
    record {
      shapes = ShapesHold-give_wait core s k given holds may;
      locks = LocksHold-give_wait core s k given holds may;
      queues = QueuesHold-give_wait core s k given holds may;
      busy = BusyHolds-give_wait core s k given holds may;
      places = PlacesHold-give_wait core s k given holds may;
      positions = PositionsHold-give_wait core s k given holds may;
      journals = JournalsHold-give_wait core s k given holds may;
      sleepers = SleepersHold-give_wait core s k given holds may;
    }

pub Holds-take_works : (core : Columns) (s c : ℕ) → Holds core → MayTakeWorks core s c → Holds (take_works core s c)
Holds-take_works core s c holds may =
    record {
      shapes = ShapesHold-take_works core s c holds may;
      locks = LocksHold-take_works core s c holds may;
      queues = QueuesHold-take_works core s c holds may;
      busy = BusyHolds-take_works core s c holds may;
      places = PlacesHold-take_works core s c holds may;
      positions = PositionsHold-take_works core s c holds may;
      journals = JournalsHold-take_works core s c holds may;
      sleepers = SleepersHold-take_works core s c holds may;
    }

pub Holds-give_works : (core : Columns) (s c : ℕ) (val : List WorkItem) → Holds core → MayGiveWorks core s c val → Holds (give_works core s c val)
Holds-give_works core s c val holds may =
    record {
      shapes = ShapesHold-give_works core s c val holds may;
      locks = LocksHold-give_works core s c val holds may;
      queues = QueuesHold-give_works core s c val holds may;
      busy = BusyHolds-give_works core s c val holds may;
      places = PlacesHold-give_works core s c val holds may;
      positions = PositionsHold-give_works core s c val holds may;
      journals = JournalsHold-give_works core s c val holds may;
      sleepers = SleepersHold-give_works core s c val holds may;
    }

pub Holds-body_out : (core : Columns) (s t : ℕ) → Holds core → MayBodyOut core s t → Holds (body_out core s t)
Holds-body_out core s t holds may =
    record {
      shapes = ShapesHold-body_out core s t holds may;
      locks = LocksHold-body_out core s t holds may;
      queues = QueuesHold-body_out core s t holds may;
      busy = BusyHolds-body_out core s t holds may;
      places = PlacesHold-body_out core s t holds may;
      positions = PositionsHold-body_out core s t holds may;
      journals = JournalsHold-body_out core s t holds may;
      sleepers = SleepersHold-body_out core s t holds may;
    }

pub Holds-body_home : (core : Columns) (s t : ℕ) (ended : Bool) → Holds core → MayBodyHome core s t ended → Holds (body_home core s t ended)
Holds-body_home core s t ended holds may =
    record {
      shapes = ShapesHold-body_home core s t ended holds may;
      locks = LocksHold-body_home core s t ended holds may;
      queues = QueuesHold-body_home core s t ended holds may;
      busy = BusyHolds-body_home core s t ended holds may;
      places = PlacesHold-body_home core s t ended holds may;
      positions = PositionsHold-body_home core s t ended holds may;
      journals = JournalsHold-body_home core s t ended holds may;
      sleepers = SleepersHold-body_home core s t ended holds may;
    }

pub Holds-queue_task : (core : Columns) (s c t : ℕ) → Holds core → MayQueue core s c t → Holds (queue_task core s c t)
Holds-queue_task core s c t holds may =
    record {
      shapes = ShapesHold-queue_task core s c t holds may;
      locks = LocksHold-queue_task core s c t holds may;
      queues = QueuesHold-queue_task core s c t holds may;
      busy = BusyHolds-queue_task core s c t holds may;
      places = PlacesHold-queue_task core s c t holds may;
      positions = PositionsHold-queue_task core s c t holds may;
      journals = JournalsHold-queue_task core s c t holds may;
      sleepers = SleepersHold-queue_task core s c t holds may;
    }

pub Holds-dequeue_task : (core : Columns) (s c t : ℕ) → Holds core → MayDequeue core s c t → Holds (dequeue_task core s c t)
Holds-dequeue_task core s c t holds may =
    record {
      shapes = ShapesHold-dequeue_task core s c t holds may;
      locks = LocksHold-dequeue_task core s c t holds may;
      queues = QueuesHold-dequeue_task core s c t holds may;
      busy = BusyHolds-dequeue_task core s c t holds may;
      places = PlacesHold-dequeue_task core s c t holds may;
      positions = PositionsHold-dequeue_task core s c t holds may;
      journals = JournalsHold-dequeue_task core s c t holds may;
      sleepers = SleepersHold-dequeue_task core s c t holds may;
    }

pub Holds-move_task : (core : Columns) (s c t : ℕ) (val : Queue) → Holds core → MayMove core s c t val → Holds (move_task core s c t)
Holds-move_task core s c t val holds may =
    record {
      shapes = ShapesHold-move_task core s c t val holds may;
      locks = LocksHold-move_task core s c t val holds may;
      queues = QueuesHold-move_task core s c t val holds may;
      busy = BusyHolds-move_task core s c t val holds may;
      places = PlacesHold-move_task core s c t val holds may;
      positions = PositionsHold-move_task core s c t val holds may;
      journals = JournalsHold-move_task core s c t val holds may;
      sleepers = SleepersHold-move_task core s c t val holds may;
    }

pub Holds-set_busy : (core : Columns) (s c t : ℕ) (val : Queue) → Holds core → MaySetBusy core s c t val → Holds (set_busy core s c t)
Holds-set_busy core s c t val holds may =
    record {
      shapes = ShapesHold-set_busy core s c t val holds may;
      locks = LocksHold-set_busy core s c t val holds may;
      queues = QueuesHold-set_busy core s c t val holds may;
      busy = BusyHolds-set_busy core s c t val holds may;
      places = PlacesHold-set_busy core s c t val holds may;
      positions = PositionsHold-set_busy core s c t val holds may;
      journals = JournalsHold-set_busy core s c t val holds may;
      sleepers = SleepersHold-set_busy core s c t val holds may;
    }

pub Holds-clear_busy : (core : Columns) (s t : ℕ) → Holds core → MayClearBusy core s t → Holds (clear_busy core s t)
Holds-clear_busy core s t holds may =
    record {
      shapes = ShapesHold-clear_busy core s t holds may;
      locks = LocksHold-clear_busy core s t holds may;
      queues = QueuesHold-clear_busy core s t holds may;
      busy = BusyHolds-clear_busy core s t holds may;
      places = PlacesHold-clear_busy core s t holds may;
      positions = PositionsHold-clear_busy core s t holds may;
      journals = JournalsHold-clear_busy core s t holds may;
      sleepers = SleepersHold-clear_busy core s t holds may;
    }

pub Holds-set_state : (core : Columns) (s t : ℕ) (state : State) → Holds core → MaySetState core s t state → Holds (set_state core s t state)
Holds-set_state core s t state holds may =
    record {
      shapes = ShapesHold-set_state core s t state holds may;
      locks = LocksHold-set_state core s t state holds may;
      queues = QueuesHold-set_state core s t state holds may;
      busy = BusyHolds-set_state core s t state holds may;
      places = PlacesHold-set_state core s t state holds may;
      positions = PositionsHold-set_state core s t state holds may;
      journals = JournalsHold-set_state core s t state holds may;
      sleepers = SleepersHold-set_state core s t state holds may;
    }

pub Holds-claim : (core : Columns) (s t : ℕ) → Holds core → MayClaim core s t → Holds (claim core s t)
Holds-claim core s t holds may =
    record {
      shapes = ShapesHold-claim core s t holds may;
      locks = LocksHold-claim core s t holds may;
      queues = QueuesHold-claim core s t holds may;
      busy = BusyHolds-claim core s t holds may;
      places = PlacesHold-claim core s t holds may;
      positions = PositionsHold-claim core s t holds may;
      journals = JournalsHold-claim core s t holds may;
      sleepers = SleepersHold-claim core s t holds may;
    }

pub Holds-make_runnable : (core : Columns) (s t : ℕ) → Holds core → MayMakeRunnable core s t → Holds (make_runnable core s t)
Holds-make_runnable core s t holds may =
    record {
      shapes = ShapesHold-make_runnable core s t holds may;
      locks = LocksHold-make_runnable core s t holds may;
      queues = QueuesHold-make_runnable core s t holds may;
      busy = BusyHolds-make_runnable core s t holds may;
      places = PlacesHold-make_runnable core s t holds may;
      positions = PositionsHold-make_runnable core s t holds may;
      journals = JournalsHold-make_runnable core s t holds may;
      sleepers = SleepersHold-make_runnable core s t holds may;
    }

pub Holds-load_state : (core : Columns) (s t : ℕ) (mask : Option State) → Holds core → MayLoadState core s t mask → Holds (load_state core s t mask)
Holds-load_state core s t mask holds may =
    record {
      shapes = ShapesHold-load_state core s t mask holds may;
      locks = LocksHold-load_state core s t mask holds may;
      queues = QueuesHold-load_state core s t mask holds may;
      busy = BusyHolds-load_state core s t mask holds may;
      places = PlacesHold-load_state core s t mask holds may;
      positions = PositionsHold-load_state core s t mask holds may;
      journals = JournalsHold-load_state core s t mask holds may;
      sleepers = SleepersHold-load_state core s t mask holds may;
    }

pub Holds-load_rq : (core : Columns) (s t : ℕ) → Holds core → MayLoad core s t → Holds (load_rq core s t)
Holds-load_rq core s t holds may =
    record {
      shapes = ShapesHold-load_rq core s t holds may;
      locks = LocksHold-load_rq core s t holds may;
      queues = QueuesHold-load_rq core s t holds may;
      busy = BusyHolds-load_rq core s t holds may;
      places = PlacesHold-load_rq core s t holds may;
      positions = PositionsHold-load_rq core s t holds may;
      journals = JournalsHold-load_rq core s t holds may;
      sleepers = SleepersHold-load_rq core s t holds may;
    }

pub Holds-load_busy : (core : Columns) (s t : ℕ) → Holds core → MayLoad core s t → Holds (load_busy core s t)
Holds-load_busy core s t holds may =
    record {
      shapes = ShapesHold-load_busy core s t holds may;
      locks = LocksHold-load_busy core s t holds may;
      queues = QueuesHold-load_busy core s t holds may;
      busy = BusyHolds-load_busy core s t holds may;
      places = PlacesHold-load_busy core s t holds may;
      positions = PositionsHold-load_busy core s t holds may;
      journals = JournalsHold-load_busy core s t holds may;
      sleepers = SleepersHold-load_busy core s t holds may;
    }

pub Holds-load_cpu : (core : Columns) (s t : ℕ) → Holds core → MayLoad core s t → Holds (load_cpu core s t)
Holds-load_cpu core s t holds may =
    record {
      shapes = ShapesHold-load_cpu core s t holds may;
      locks = LocksHold-load_cpu core s t holds may;
      queues = QueuesHold-load_cpu core s t holds may;
      busy = BusyHolds-load_cpu core s t holds may;
      places = PlacesHold-load_cpu core s t holds may;
      positions = PositionsHold-load_cpu core s t holds may;
      journals = JournalsHold-load_cpu core s t holds may;
      sleepers = SleepersHold-load_cpu core s t holds may;
    }

pub Holds-load_count : (core : Columns) (s t : ℕ) → Holds core → MayLoad core s t → Holds (load_count core s t)
Holds-load_count core s t holds may =
    record {
      shapes = ShapesHold-load_count core s t holds may;
      locks = LocksHold-load_count core s t holds may;
      queues = QueuesHold-load_count core s t holds may;
      busy = BusyHolds-load_count core s t holds may;
      places = PlacesHold-load_count core s t holds may;
      positions = PositionsHold-load_count core s t holds may;
      journals = JournalsHold-load_count core s t holds may;
      sleepers = SleepersHold-load_count core s t holds may;
    }

pub Holds-store_cpu : (core : Columns) (s t c : ℕ) → Holds core → MayStoreCpu core s t c → Holds (store_cpu core s t c)
Holds-store_cpu core s t c holds may =
    record {
      shapes = ShapesHold-store_cpu core s t c holds may;
      locks = LocksHold-store_cpu core s t c holds may;
      queues = QueuesHold-store_cpu core s t c holds may;
      busy = BusyHolds-store_cpu core s t c holds may;
      places = PlacesHold-store_cpu core s t c holds may;
      positions = PositionsHold-store_cpu core s t c holds may;
      journals = JournalsHold-store_cpu core s t c holds may;
      sleepers = SleepersHold-store_cpu core s t c holds may;
    }

pub Holds-bump : (core : Columns) (s k : ℕ) → Holds core → MayBump core s k → Holds (bump core s k)
Holds-bump core s k holds may =
    record {
      shapes = ShapesHold-bump core s k holds may;
      locks = LocksHold-bump core s k holds may;
      queues = QueuesHold-bump core s k holds may;
      busy = BusyHolds-bump core s k holds may;
      places = PlacesHold-bump core s k holds may;
      positions = PositionsHold-bump core s k holds may;
      journals = JournalsHold-bump core s k holds may;
      sleepers = SleepersHold-bump core s k holds may;
    }

pub Holds-load_cond : (core : Columns) (s k : ℕ) → Holds core → MayBump core s k → Holds (load_cond core s k)
Holds-load_cond core s k holds may =
    record {
      shapes = ShapesHold-load_cond core s k holds may;
      locks = LocksHold-load_cond core s k holds may;
      queues = QueuesHold-load_cond core s k holds may;
      busy = BusyHolds-load_cond core s k holds may;
      places = PlacesHold-load_cond core s k holds may;
      positions = PositionsHold-load_cond core s k holds may;
      journals = JournalsHold-load_cond core s k holds may;
      sleepers = SleepersHold-load_cond core s k holds may;
    }

pub Holds-start : (shape : Shape) (core : Columns) → IsShape shape → IsStart shape core → Holds core
Holds-start shape core is_shape is_start =
    record {
      shapes = ShapesHold-start shape core is_shape is_start;
      locks = LocksHold-start shape core is_shape is_start;
      queues = QueuesHold-start shape core is_shape is_start;
      busy = BusyHolds-start shape core is_shape is_start;
      places = PlacesHold-start shape core is_shape is_start;
      positions = PositionsHold-start shape core is_shape is_start;
      journals = JournalsHold-start shape core is_shape is_start;
      sleepers = SleepersHold-start shape core is_shape is_start;
    }
