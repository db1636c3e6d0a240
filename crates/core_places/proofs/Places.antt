-- Each kind of step keeps what the places of tasks say.
use Rattle.std.proofs.Common.{◌≡◌, ◌≢◌, ℕ, ◌⊎◌, inl, inr, List, Bool, Some, refl, arith}
use Rattle.core_data.specs.Queue.{Queue}
use Rattle.core_data.specs.Columns.{Columns}
use Rattle.core_data.specs.declared.values.TaskVal.{TaskVal}
use Rattle.core_data.specs.declared.values.WorkItem.{WorkItem}
use Rattle.core_invariant.specs.Invariant.{Holds}
use Rattle.core_invariant.specs.Places.{PlacesHold}
use Rattle.core_kinds.specs.Locks.{MayTakeTask, take_task, MayGiveTask, give_task, MayTakeQueue, take_queue, MayTakeWait, take_wait, MayTakeWorks, take_works, MayGiveWorks, give_works}
use Rattle.core_kinds.specs.Running.{MayQueue, queue_task, MayDequeue, dequeue_task, MayMove, move_task, MaySetBusy, set_busy, MayClearBusy, clear_busy, MayBodyOut, body_out, MayBodyHome, body_home}
use Rattle.core_kinds.specs.Steps.{waking, running}
use Rattle.core_kinds.specs.Waking.{MayClaim, claim, IsReadyToRun, MayMakeRunnable, make_runnable, MayLoad, load_cpu, load_count, MayStoreCpu, store_cpu, MayBump, bump}
use Rattle.core_places.proofs.Facts.{idle_apart, ready_idle, ready_state, leaves, queued_started, claim_off, claim_started, move_idle, placeable_off}
use Rattle.core_places.proofs.NewTasks.{on_rq-put, NewTasks-change, NewTasks-busy, NewTasks-clear, NewStates-take, NewStates-give, NewStates-stored, NewStates-change, NewStates-state, NewValues-take}
use Rattle.core_places.proofs.NewTasks.{NewValues-give, NewValues-change}
use Rattle.core_places.proofs.OffTasks.{OffTasks-take, OffTasks-give, OffTasks-queue, OffTasks-move, OffTasks-leave, OffTasks-state, OffTasks-claim}
use Rattle.core_places.proofs.Running.{CurrentTasks-queue, CurrentTasks-off, CurrentTasks-pick, CurrentTasks-state, WaitingTasks-take, WaitingTasks-queue, WaitingTasks-off, WaitingTasks-pick}
use Rattle.core_places.proofs.Running.{WaitingTasks-state, WaitingTasks-cpu}
use Rattle.core_places.proofs.Running.{MovingTasks-take, MovingTasks-give, MovingTasks-change, MovingTasks-move, MovingTasks-busy, MovingTasks-clear, MovingTasks-state}

pub PlacesHold-take_task : (core : Columns) (s t : ℕ) → Holds core → MayTakeTask core s t → PlacesHold (take_task core s t)
PlacesHold-take_task core s t holds may =
    let p = holds.places in
    assumption (
      NewStates-take core.tasks core.state core.changes core.lock core.has_stored s t p.new_states may.free,
      NewValues-take core.cpus core.changes core.val core.task_held s t p.new_values,
      OffTasks-take core.state core.on_rq core.changes core.lock core.is_claimed s t p.off may.free,
      MovingTasks-take core.state core.on_rq core.on_cpu core.lock s t p.moving may.free,
    )

pub PlacesHold-give_task : (core : Columns) (s t : ℕ) (val : TaskVal) (stood done : Bool) → Holds core → MayGiveTask core s t val stood done → PlacesHold (give_task core s t val)
PlacesHold-give_task core s t val stood done holds may =
    let p = holds.places in
    assumption (
      NewStates-give core.tasks core.state core.changes core.lock core.has_stored t p.new_states may.fresh,
      NewValues-give core.cpus core.changes core.val core.task_held s t val p.new_values may.out may.kept,
      OffTasks-give core.state core.on_rq core.changes core.lock core.is_claimed t p.off may.settled.1,
      MovingTasks-give core.state core.on_rq core.on_cpu core.lock t p.moving may.settled.0,
    )

pub PlacesHold-take_queue : (core : Columns) (s c : ℕ) → Holds core → MayTakeQueue core s c → PlacesHold (take_queue core s c)
PlacesHold-take_queue core s c holds may =
    let p = holds.places in
    assumption (WaitingTasks-take core.state core.on_rq core.cpu core.current_task core.queue_lock core.has_added s c p.waiting may.free)

pub PlacesHold-take_wait : (core : Columns) (s k : ℕ) → Holds core → MayTakeWait core s k → PlacesHold (take_wait core s k)
PlacesHold-take_wait core s k holds may = let p = holds.places in assumption p

pub PlacesHold-take_works : (core : Columns) (s c : ℕ) → Holds core → MayTakeWorks core s c → PlacesHold (take_works core s c)
PlacesHold-take_works core s c holds may = let p = holds.places in assumption p

pub PlacesHold-give_works : (core : Columns) (s c : ℕ) (val : List WorkItem) → Holds core → MayGiveWorks core s c val → PlacesHold (give_works core s c val)
PlacesHold-give_works core s c val holds may = let p = holds.places in assumption p

pub PlacesHold-body_out : (core : Columns) (s t : ℕ) → Holds core → MayBodyOut core s t → PlacesHold (body_out core s t)
PlacesHold-body_out core s t holds may = let p = holds.places in assumption p

pub PlacesHold-body_home : (core : Columns) (s t : ℕ) (ended : Bool) → Holds core → MayBodyHome core s t ended → PlacesHold (body_home core s t ended)
PlacesHold-body_home core s t ended holds may = let p = holds.places in assumption p

pub PlacesHold-queue_task : (core : Columns) (s c t : ℕ) → Holds core → MayQueue core s c t → PlacesHold (queue_task core s c t)
PlacesHold-queue_task core s c t holds may =
    let p = holds.places in
    let idle = ready_idle core s t holds may.task_locked may.ready in
    assumption (
      on_rq-put core.on_rq t 1 p.on_rq (omega arith),
      NewTasks-change core.on_rq core.changes core.on_cpu core.count t 1 p.new,
      NewStates-change core.tasks core.state core.changes core.lock core.has_stored s t p.new_states,
      NewValues-change core.cpus core.changes core.val core.task_held t p.new_values,
      OffTasks-queue core.state core.on_rq core.changes core.lock core.is_claimed s t p.off,
      CurrentTasks-queue core.state core.on_rq core.current_task t p.current (idle_apart core t holds idle),
      WaitingTasks-queue core.state core.on_rq core.cpu core.current_task core.queue_lock core.has_added s c t p.waiting may.locked may.here (ready_state core s t holds may.ready),
      MovingTasks-change core.state core.on_rq core.on_cpu core.lock t 1 p.moving (λ h. omega arith),
    )

pub PlacesHold-dequeue_task : (core : Columns) (s c t : ℕ) → Holds core → MayDequeue core s c t → PlacesHold (dequeue_task core s c t)
PlacesHold-dequeue_task core s c t holds may =
    let p = holds.places in
    assumption (
      on_rq-put core.on_rq t 0 p.on_rq (omega arith),
      NewTasks-change core.on_rq core.changes core.on_cpu core.count t 0 p.new,
      NewStates-change core.tasks core.state core.changes core.lock core.has_stored s t p.new_states,
      NewValues-change core.cpus core.changes core.val core.task_held t p.new_values,
      OffTasks-leave core.state core.on_rq core.changes core.lock core.is_claimed t p.off (leaves core s c t holds may),
      CurrentTasks-off core.state core.on_rq core.current_task t 0 p.current (λ h. omega arith),
      WaitingTasks-off core.state core.on_rq core.cpu core.current_task core.queue_lock core.has_added t 0 p.waiting (λ h. omega arith),
      MovingTasks-change core.state core.on_rq core.on_cpu core.lock t 0 p.moving (λ h. omega arith),
    )

pub PlacesHold-move_task : (core : Columns) (s c t : ℕ) (val : Queue) → Holds core → MayMove core s c t val → PlacesHold (move_task core s c t)
PlacesHold-move_task core s c t val holds may =
    let p = holds.places in
    assumption (
      on_rq-put core.on_rq t 2 p.on_rq (omega arith),
      NewTasks-change core.on_rq core.changes core.on_cpu core.count t 2 p.new,
      NewStates-change core.tasks core.state core.changes core.lock core.has_stored s t p.new_states,
      NewValues-change core.cpus core.changes core.val core.task_held t p.new_values,
      OffTasks-move core.state core.on_rq core.changes core.lock core.is_claimed t p.off,
      CurrentTasks-off core.state core.on_rq core.current_task t 2 p.current (λ h. omega arith),
      WaitingTasks-off core.state core.on_rq core.cpu core.current_task core.queue_lock core.has_added t 2 p.waiting (λ h. omega arith),
      MovingTasks-move core.state core.on_rq core.on_cpu core.lock s t p.moving may.runnable (move_idle core s c t holds may.locked may.idle may.queued may.here may.other) may.task_locked,
    )

pub PlacesHold-set_busy : (core : Columns) (s c t : ℕ) (val : Queue) → Holds core → MaySetBusy core s c t val → PlacesHold (set_busy core s c t)
PlacesHold-set_busy core s c t val holds may =
    let p = holds.places in
    assumption (
      NewTasks-busy core.on_rq core.changes core.on_cpu core.count t p.new may.queued,
      NewStates-stored core.tasks core.state core.changes core.lock core.has_stored s t p.new_states,
      CurrentTasks-pick core.state core.on_rq core.current_task s t p.current may.runnable,
      WaitingTasks-pick core.state core.on_rq core.cpu core.current_task core.queue_lock core.has_added s t p.waiting may.none,
      MovingTasks-busy core.state core.on_rq core.on_cpu core.lock t p.moving may.queued,
    )

pub PlacesHold-clear_busy : (core : Columns) (s t : ℕ) → Holds core → MayClearBusy core s t → PlacesHold (clear_busy core s t)
PlacesHold-clear_busy core s t holds may =
    let p = holds.places in
    assumption (
      NewTasks-clear core.on_rq core.changes core.on_cpu core.count t p.new,
      NewStates-stored core.tasks core.state core.changes core.lock core.has_stored s t p.new_states,
      MovingTasks-clear core.state core.on_rq core.on_cpu core.lock t p.moving,
    )

pub PlacesHold-claim : (core : Columns) (s t : ℕ) → Holds core → MayClaim core s t → PlacesHold (claim core s t)
PlacesHold-claim core s t holds may =
    let p = holds.places in
    let off = claim_off core s t holds may in
    assumption (
      NewStates-state core.tasks core.state core.changes core.lock core.has_stored s t waking p.new_states (inl (claim_started core s t holds may)),
      OffTasks-claim core.state core.on_rq core.changes core.lock core.is_claimed s t p.off may.locked,
      CurrentTasks-state core.state core.on_rq core.current_task t waking p.current (inl (λ h. omega arith)),
      WaitingTasks-state core.state core.on_rq core.cpu core.current_task core.queue_lock core.has_added t waking p.waiting (inr (inl (λ h. omega arith))),
      MovingTasks-state core.state core.on_rq core.on_cpu core.lock t waking p.moving (inl (λ h. omega arith)),
    )

new_or_queued : (core : Columns) (s t : ℕ) → IsReadyToRun core s t → (core.changes t ≡ 0) ⊎ (core.on_rq t ≢ 0)
new_or_queued core s t (inl a) = inl a.1
new_or_queued core s t (inr (inl a)) = inr (λ h. let q = a.2 in omega arith)
new_or_queued core s t (inr (inr a)) = inr (λ h. let q = a.2 in omega arith)

made_runnable : (core : Columns) (s t : ℕ) → Holds core → IsReadyToRun core s t → (core.changes t ≢ 0) ⊎ (core.lock t ≡ Some s)
made_runnable core s t holds (inl a) = inr a.0
made_runnable core s t holds (inr (inl a)) = inr a.0
made_runnable core s t holds (inr (inr a)) = inl (queued_started core t holds (λ h. let q = a.2 in omega arith))

pub PlacesHold-make_runnable : (core : Columns) (s t : ℕ) → Holds core → MayMakeRunnable core s t → PlacesHold (make_runnable core s t)
PlacesHold-make_runnable core s t holds may =
    let p = holds.places in
    assumption (
      NewStates-state core.tasks core.state core.changes core.lock core.has_stored s t running p.new_states (elim (made_runnable core s t holds may.ready) [
        | inl a ↦ inl a
        | inr a ↦ inr (a, inl refl)
      ]),
      OffTasks-state core.state core.on_rq core.changes core.lock core.is_claimed t running p.off (new_or_queued core s t may.ready),
      CurrentTasks-state core.state core.on_rq core.current_task t running p.current (inr (inl (inl refl))),
      WaitingTasks-state core.state core.on_rq core.cpu core.current_task core.queue_lock core.has_added t running p.waiting (inr (inr (inl refl))),
      MovingTasks-state core.state core.on_rq core.on_cpu core.lock t running p.moving (inr (inl refl)),
    )

pub PlacesHold-load_cpu : (core : Columns) (s t : ℕ) → Holds core → MayLoad core s t → PlacesHold (load_cpu core s t)
PlacesHold-load_cpu core s t holds may = let p = holds.places in assumption p

pub PlacesHold-load_count : (core : Columns) (s t : ℕ) → Holds core → MayLoad core s t → PlacesHold (load_count core s t)
PlacesHold-load_count core s t holds may = let p = holds.places in assumption p

pub PlacesHold-store_cpu : (core : Columns) (s t c : ℕ) → Holds core → MayStoreCpu core s t c → PlacesHold (store_cpu core s t c)
PlacesHold-store_cpu core s t c holds may =
    let p = holds.places in
    assumption (
      NewStates-stored core.tasks core.state core.changes core.lock core.has_stored s t p.new_states,
      WaitingTasks-cpu core.state core.on_rq core.cpu core.current_task core.queue_lock core.has_added t c p.waiting (placeable_off core s t c holds may),
    )

pub PlacesHold-bump : (core : Columns) (s k : ℕ) → Holds core → MayBump core s k → PlacesHold (bump core s k)
PlacesHold-bump core s k holds may = let p = holds.places in assumption p
