-- Whether a seat may make a step, and the core after it.
use Rattle.std.specs.Prelude.{◌≡◌, ℕ}
use Rattle.core_data.specs.Columns.{Columns}
use Rattle.core_gives.specs.Queues.{MayGiveQueue, give_queue}
use Rattle.core_gives.specs.Waits.{MayGiveWait, give_wait}
use Rattle.core_kinds.specs.Locks.{MayTakeTask, take_task, MayGiveTask, give_task, MayTakeQueue, take_queue}
use Rattle.core_kinds.specs.Locks.{MayTakeWait, take_wait, MayTakeWorks, take_works, MayGiveWorks, give_works}
use Rattle.core_kinds.specs.Running.{MayQueue, queue_task, MayDequeue, dequeue_task, MayMove, move_task, MaySetBusy}
use Rattle.core_kinds.specs.Running.{set_busy, MayClearBusy, clear_busy, MayBodyOut, body_out, MayBodyHome, body_home}
use Rattle.core_kinds.specs.Waking.{MaySetState, set_state, MayClaim, claim, MayMakeRunnable, make_runnable, MayLoad}
use Rattle.core_kinds.specs.Waking.{MayLoadState, load_state, load_rq, load_busy, load_cpu, load_count, MayStoreCpu}
use Rattle.core_kinds.specs.Waking.{store_cpu, MayBump, bump, load_cond}
use Rattle.core_law.specs.declared.event.Event.{Event}
use Rattle.core_law.specs.declared.step.StepKind.{StepKind}
use Rattle.core_law.specs.declared.step.StepKind.TheVariants.{TakeTask, GiveTask, TakeQueue, GiveQueue, TakeWait}
use Rattle.core_law.specs.declared.step.StepKind.TheVariants.{GiveWait, TakeWorks, GiveWorks, BodyOut, BodyHome}
use Rattle.core_law.specs.declared.step.StepKind.TheVariants.{QueueTask, DequeueTask, MoveTask, SetBusy, ClearBusy}
use Rattle.core_law.specs.declared.step.StepKind.TheVariants.{SetState, ClaimTask, MakeRunnable, LoadState, LoadRq}
use Rattle.core_law.specs.declared.step.StepKind.TheVariants.{LoadBusy, LoadCpu, LoadCount, StoreCpu, Bump, LoadCond}

abbrev pub May : Columns → ℕ → StepKind → Type 0
May core s (TakeTask t) = MayTakeTask core s t
May core s (GiveTask t val stood done) = MayGiveTask core s t val stood done
May core s (TakeQueue c) = MayTakeQueue core s c
May core s (GiveQueue c val) = MayGiveQueue core s c val
May core s (TakeWait k) = MayTakeWait core s k
May core s (GiveWait k val) = MayGiveWait core s k val
May core s (TakeWorks c) = MayTakeWorks core s c
May core s (GiveWorks c val) = MayGiveWorks core s c val
May core s (BodyOut t) = MayBodyOut core s t
May core s (BodyHome t ended) = MayBodyHome core s t ended
May core s (QueueTask c t) = MayQueue core s c t
May core s (DequeueTask c t) = MayDequeue core s c t
May core s (MoveTask c t val) = MayMove core s c t val
May core s (SetBusy c t val) = MaySetBusy core s c t val
May core s (ClearBusy t) = MayClearBusy core s t
May core s (SetState t state) = MaySetState core s t state
May core s (ClaimTask t) = MayClaim core s t
May core s (MakeRunnable t) = MayMakeRunnable core s t
May core s (LoadState t mask) = MayLoadState core s t mask
May core s (LoadRq t) = MayLoad core s t
May core s (LoadBusy t) = MayLoad core s t
May core s (LoadCpu t) = MayLoad core s t
May core s (LoadCount t) = MayLoad core s t
May core s (StoreCpu t c) = MayStoreCpu core s t c
May core s (Bump k) = MayBump core s k
May core s (LoadCond k) = MayBump core s k

abbrev pub after : Columns → ℕ → StepKind → Columns
after core s (TakeTask t) = take_task core s t
after core s (GiveTask t val stood done) = give_task core s t val
after core s (TakeQueue c) = take_queue core s c
after core s (GiveQueue c val) = give_queue core s c val
after core s (TakeWait k) = take_wait core s k
after core s (GiveWait k val) = give_wait core s k val
after core s (TakeWorks c) = take_works core s c
after core s (GiveWorks c val) = give_works core s c val
after core s (BodyOut t) = body_out core s t
after core s (BodyHome t ended) = body_home core s t ended
after core s (QueueTask c t) = queue_task core s c t
after core s (DequeueTask c t) = dequeue_task core s c t
after core s (MoveTask c t val) = move_task core s c t
after core s (SetBusy c t val) = set_busy core s c t
after core s (ClearBusy t) = clear_busy core s t
after core s (SetState t state) = set_state core s t state
after core s (ClaimTask t) = claim core s t
after core s (MakeRunnable t) = make_runnable core s t
after core s (LoadState t mask) = load_state core s t mask
after core s (LoadRq t) = load_rq core s t
after core s (LoadBusy t) = load_busy core s t
after core s (LoadCpu t) = load_cpu core s t
after core s (LoadCount t) = load_count core s t
after core s (StoreCpu t c) = store_cpu core s t c
after core s (Bump k) = bump core s k
after core s (LoadCond k) = load_cond core s k

-- one event leads from a core to the next
pub record Step (core : Columns) (event : Event) (next : Columns) : Type 0 where
  pub possible : May core event.seat event.step
  pub next_is : next ≡ after core event.seat event.step
