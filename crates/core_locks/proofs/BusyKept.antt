-- One runner a task, busy words and bodies stay so.
use Rattle.std.proofs.Common.{◌≡◌, ℕ, inl, inr, List, Bool, true, false, Some, None, Option, refl, sym, subst, ◌∙◌, arith}
use Rattle.std.specs.Prelude.{◌&&◌}
use Rattle.std.proofs.lemmas.Bool.{cases_eq}
use Rattle.std.proofs.lemmas.Bool.Decides.{nat_tests}
use Rattle.core_data.specs.Queue.{Queue}
use Rattle.core_data.specs.Columns.{Columns, put, put_at}
use Rattle.core_data.specs.declared.values.TaskVal.{TaskVal}
use Rattle.core_data.specs.declared.values.WaitEntry.{WaitEntry}
use Rattle.core_data.specs.declared.values.WorkItem.{WorkItem}
use Rattle.core_gives.specs.Queues.{MayGiveQueue, give_queue, give_up_if, gives_up}
use Rattle.core_gives.specs.Waits.{MayGiveWait, give_wait, give_by, walked_if, is_walk}
use Rattle.core_invariant.proofs.Puts.{put_here, put_there}
use Rattle.core_invariant.specs.Busy.{BusyHolds}
use Rattle.core_invariant.specs.Invariant.{Holds}
use Rattle.core_kinds.specs.Locks.{MayTakeTask, take_task, MayGiveTask, give_task, MayTakeQueue, take_queue, unseen, MayTakeWorks, take_works, MayGiveWorks, give_works, MayTakeWait, take_wait}
use Rattle.core_kinds.specs.Running.{MayQueue, queue_task, MayDequeue, dequeue_task, MayMove, move_task, MaySetBusy, set_busy, MayClearBusy, clear_busy, MayBodyOut, body_out, MayBodyHome, body_home}
use Rattle.core_kinds.specs.Steps.{waking, running, dead}
use Rattle.core_kinds.specs.Waking.{IsSettable, MaySetState, set_state, MayClaim, claim, MayMakeRunnable, make_runnable, MayLoad, MayStoreCpu, store_cpu, MayBump, bump, MayLoadState, load_state}
use Rattle.core_kinds.specs.Waking.{load_rq, load_busy, load_cpu, load_count, load_cond}
use Rattle.core_locks.proofs.Branches.{IsLoadFree, load_state-keeps, load_rq-keeps, load_busy-keeps, load_cond-keeps, IsOwnFree, set_state-keeps}
use Rattle.core_locks.proofs.Found.{some_of, only_out, idle_placeable}
use Rattle.core_locks.proofs.Runners.{OneRunner-set_busy, OneRunner-clear_busy, OneRunner-store_cpu, OneRunner-give_up, NamedByQueue-take, NamedByQueue-set_busy, NamedByQueue-clear_busy}
use Rattle.core_locks.proofs.Runners.{NamedByQueue-give, NamedByQueue-give_up, BodiesKept-give_up, BodiesKept-set_busy, BodiesKept-out, BodiesKept-home}
use Rattle.handoff_data.specs.declared.state.State.{State}

-- no load changes a busy word or a body
load_free : (s t : ℕ) → IsLoadFree BusyHolds s t
load_free s t =
    record {
      reads = λ core r p. assumption (p);
      seen = λ core x p. assumption (p);
      log = λ core x p. assumption (p);
      matched = λ core p. assumption (p);
      saw_off = λ core p. assumption (p);
      saw_clear = λ core p. assumption (p);
      saw_rest = λ core p. assumption (p);
      saw_rest_off = λ core p. assumption (p);
      saw_rest_idle = λ core p. assumption (p);
      passed = λ core p. assumption (p);
    }

own_free : (s t : ℕ) → IsOwnFree BusyHolds s t
own_free s t =
    record {
      forget = λ core x y p. assumption (p);
      slept = λ core p. assumption (p);
      passed = λ core p. assumption (p);
    }

pub BusyHolds-take_task : (core : Columns) (s t : ℕ) → Holds core → MayTakeTask core s t → BusyHolds (take_task core s t)
BusyHolds-take_task core s t holds may = assumption (holds.busy)

pub BusyHolds-give_task : (core : Columns) (s t : ℕ) (val : TaskVal) (stood done : Bool) → Holds core → MayGiveTask core s t val stood done → BusyHolds (give_task core s t val)
BusyHolds-give_task core s t val stood done holds may = assumption (holds.busy)

pub BusyHolds-take_queue : (core : Columns) (s c : ℕ) → Holds core → MayTakeQueue core s c → BusyHolds (take_queue core s c)
BusyHolds-take_queue core s c holds may = assumption (holds.busy, NamedByQueue-take core.current_task core.task_to_clear core.queue core.queue_held s c holds.busy.named)

-- the `left` of a queue that is given is the task that its seat is still to clear
left_kept : (core : Columns) (s c : ℕ) (queue : Queue) → Holds core → MayGiveQueue core s c queue → (t : ℕ) → core.task_to_clear c ≡ Some t → queue.left ≡ Some t
left_kept core s c queue holds may t e =
    elim (cases_eq s c) [
      | inl q ↦ may.switch.2 q t (subst (λ z. core.task_to_clear z ≡ Some t) (sym q) e)
      | inr q ↦ let v = some_of (core.queue_held s c) may.out in (may.switch.0 q v.0 v.1).1 ∙ holds.busy.named.left_out s c t v.0 e v.1
    ]

-- .. and its `cur` is the current task of that seat, unless that is given up
cur_kept : (core : Columns) (s c : ℕ) (queue : Queue) → Holds core → MayGiveQueue core s c queue → gives_up s c queue ≡ false → (t : ℕ) → core.current_task c ≡ Some t → queue.cur ≡ Some t
cur_kept core s c queue holds may b t e =
    elim (cases_eq s c) [
      | inl q ↦ elim (may.switch.1 q t (subst (λ z. core.current_task z ≡ Some t) (sym q) e)) [ inl a ↦ a | inr a ↦ absurd (grind (arith, nat_tests, q, a.0, b)) ]
      | inr q ↦ let v = some_of (core.queue_held s c) may.out in (may.switch.0 q v.0 v.1).0 ∙ holds.busy.named.cur_out s c t v.0 q e v.1
    ]

given_up : (core : Columns) (s : ℕ) (queue : Queue) → Holds core → MayGiveQueue core s s queue → gives_up s s queue ≡ true
    → BusyHolds (unseen (give_up_if true (record core { queue_lock = put core.queue_lock s None; queue = put core.queue s (Some queue); queue_held = put_at core.queue_held s s None }) s) s s)
given_up core s queue holds may b =
    let away = holds.locks.queues.held_away s s may.locked in
    let only = only_out _ core.cpus core.seats core.queue_lock core.queue core.queue_held s s holds.locks.queues may.locked in
    let free : queue.cur ≡ None = grind (arith, nat_tests, b) in
    let left : (t : ℕ) → core.current_task s ≡ Some t → queue.left ≡ Some t = λ t e. elim (may.switch.1 refl t e) [ inl a ↦ absurd (grind (arith, a, free)) | inr a ↦ a.1 ] in
    let home : (t : ℕ) → core.current_task s ≡ Some t → core.body t ≡ true = λ t e. elim (may.switch.1 refl t e) [ inl a ↦ absurd (grind (arith, a, free)) | inr a ↦ a.2.0 ] in
    assumption (
      holds.busy,
      OneRunner-give_up core.on_cpu core.cpu core.current_task core.task_to_clear s holds.busy.runner,
      NamedByQueue-give_up core.current_task core.task_to_clear core.queue core.queue_held s queue holds.busy.named away only (λ t e. may.switch.2 refl t e) left,
      BodiesKept-give_up core.tasks core.body core.body_held core.current_task s holds.busy.bodies home,
    )

given_queue : (b : Bool) (core : Columns) (s c : ℕ) (queue : Queue) → Holds core → MayGiveQueue core s c queue → gives_up s c queue ≡ b
    → BusyHolds (unseen (give_up_if b (record core { queue_lock = put core.queue_lock c None; queue = put core.queue c (Some queue); queue_held = put_at core.queue_held s c None }) s) s c)
given_queue true core s c queue holds may b =
    let own : s ≡ c = grind (arith, nat_tests, b) in
    subst (λ z. MayGiveQueue core s z queue → gives_up s z queue ≡ true
    → BusyHolds (unseen (give_up_if true (record core { queue_lock = put core.queue_lock z None; queue = put core.queue z (Some queue); queue_held = put_at core.queue_held s z None }) s) s z))
    own (λ m g. given_up core s queue holds m g) may b
given_queue false core s c queue holds may b =
    assumption (
      holds.busy,
      NamedByQueue-give core.current_task core.task_to_clear core.queue core.queue_held s c queue holds.busy.named (left_kept core s c queue holds may) (cur_kept core s c queue holds may b),
    )

pub BusyHolds-give_queue : (core : Columns) (s c : ℕ) (queue : Queue) → Holds core → MayGiveQueue core s c queue → BusyHolds (give_queue core s c queue)
BusyHolds-give_queue core s c queue holds may = given_queue (gives_up s c queue) core s c queue holds may refl

pub BusyHolds-take_wait : (core : Columns) (s k : ℕ) → Holds core → MayTakeWait core s k → BusyHolds (take_wait core s k)
BusyHolds-take_wait core s k holds may = assumption (holds.busy)

walked : (b : Bool) (core : Columns) (s k : ℕ) → BusyHolds core → BusyHolds (walked_if b core s k)
walked true core s k busy = assumption (busy)
walked false core s k busy = busy

given_wait : (core : Columns) (s k : ℕ) (given : List WaitEntry) (o : Option (List WaitEntry)) → BusyHolds core → BusyHolds (give_by core s k given o)
given_wait core s k given None busy = busy
given_wait core s k given (Some taken) busy = walked (core.owes_walk s k && (core.has_retaken s k && is_walk (core.has_passed s k) taken)) _ s k (assumption (busy))

pub BusyHolds-give_wait : (core : Columns) (s k : ℕ) (given : List WaitEntry) → Holds core → MayGiveWait core s k given → BusyHolds (give_wait core s k given)
BusyHolds-give_wait core s k given holds may = given_wait core s k given (core.wait_held s k) holds.busy

pub BusyHolds-take_works : (core : Columns) (s c : ℕ) → Holds core → MayTakeWorks core s c → BusyHolds (take_works core s c)
BusyHolds-take_works core s c holds may = assumption (holds.busy)

pub BusyHolds-give_works : (core : Columns) (s c : ℕ) (val : List WorkItem) → Holds core → MayGiveWorks core s c val → BusyHolds (give_works core s c val)
BusyHolds-give_works core s c val holds may = assumption (holds.busy)

pub BusyHolds-body_out : (core : Columns) (s t : ℕ) → Holds core → MayBodyOut core s t → BusyHolds (body_out core s t)
BusyHolds-body_out core s t holds may = assumption (holds.busy, BodiesKept-out core.tasks core.body core.body_held core.current_task s t holds.busy.bodies may.current may.home)

pub BusyHolds-body_home : (core : Columns) (s t : ℕ) (ended : Bool) → Holds core → MayBodyHome core s t ended → BusyHolds (body_home core s t ended)
BusyHolds-body_home core s t ended holds may =
    let only : (k : ℕ) → core.current_task k ≡ Some t → k ≡ s = λ k e. sym (holds.busy.runner.current_here k t e) ∙ holds.busy.runner.current_here s t may.current in
    let stays : (u : ℕ) → core.state u ≡ dead → put core.ended t ended u ≡ true = λ u e. grind (arith, nat_tests, holds.busy.ended u e, may.stays) in
    assumption (holds.busy, BodiesKept-home core.tasks core.body core.body_held core.current_task s t holds.busy.bodies may.out only, stays)

pub BusyHolds-queue_task : (core : Columns) (s c t : ℕ) → Holds core → MayQueue core s c t → BusyHolds (queue_task core s c t)
BusyHolds-queue_task core s c t holds may = assumption (holds.busy)

pub BusyHolds-dequeue_task : (core : Columns) (s c t : ℕ) → Holds core → MayDequeue core s c t → BusyHolds (dequeue_task core s c t)
BusyHolds-dequeue_task core s c t holds may = assumption (holds.busy)

pub BusyHolds-move_task : (core : Columns) (s c t : ℕ) (val : Queue) → Holds core → MayMove core s c t val → BusyHolds (move_task core s c t)
BusyHolds-move_task core s c t val holds may = assumption (holds.busy)

set_busy_own : (core : Columns) (s t : ℕ) (val : Queue) → Holds core → MaySetBusy core s s t val → BusyHolds (set_busy core s s t)
set_busy_own core s t val holds may =
    let away = holds.locks.queues.held_away s s may.locked in
    let only = only_out _ core.cpus core.seats core.queue_lock core.queue core.queue_held s s holds.locks.queues may.locked in
    assumption (
      holds.busy,
      OneRunner-set_busy core.on_cpu core.cpu core.current_task core.task_to_clear s t holds.busy.runner may.here may.idle may.none may.clear,
      NamedByQueue-set_busy core.current_task core.task_to_clear core.queue core.queue_held s t holds.busy.named away only,
      BodiesKept-set_busy core.tasks core.body core.body_held core.current_task s t holds.busy.bodies may.none,
    )

pub BusyHolds-set_busy : (core : Columns) (s c t : ℕ) (val : Queue) → Holds core → MaySetBusy core s c t val → BusyHolds (set_busy core s c t)
BusyHolds-set_busy core s c t val holds may = subst (λ z. MaySetBusy core s z t val → BusyHolds (set_busy core s z t)) may.own (λ m. set_busy_own core s t val holds m) may

pub BusyHolds-clear_busy : (core : Columns) (s t : ℕ) → Holds core → MayClearBusy core s t → BusyHolds (clear_busy core s t)
BusyHolds-clear_busy core s t holds may =
    assumption (
      holds.busy,
      OneRunner-clear_busy core.on_cpu core.cpu core.current_task core.task_to_clear s t holds.busy.runner may.left,
      NamedByQueue-clear_busy core.current_task core.task_to_clear core.queue core.queue_held s holds.busy.named,
    )

-- a state is stored that isn't the death of a task whose body hasn't ended
ended_kept : (state : ℕ → State) (ended : ℕ → Bool) (t : ℕ) (new : State) → ((u : ℕ) → state u ≡ dead → ended u ≡ true) → (new ≡ dead → ended t ≡ true) → (u : ℕ) → put state t new u ≡ dead
    → ended u ≡ true
ended_kept state ended t new p h u e = elim (cases_eq u t) [
  | inl q ↦ subst (λ z. ended z ≡ true) (sym q) (h (sym (put_here state t new u q) ∙ e))
  | inr q ↦ p u (sym (put_there state t new u q) ∙ e)
]

allowed_end : (core : Columns) (s t : ℕ) (state : State) → IsSettable core s t state → state ≡ dead → core.ended t ≡ true
allowed_end core s t state (inl a) e = absurd (grind (arith, a, e))
allowed_end core s t state (inr (inl a)) e = absurd (grind (arith, a, e))
allowed_end core s t state (inr (inr a)) e = a.2

pub BusyHolds-set_state : (core : Columns) (s t : ℕ) (state : State) → Holds core → MaySetState core s t state → BusyHolds (set_state core s t state)
BusyHolds-set_state core s t state holds may =
    set_state-keeps BusyHolds core s t state (own_free s t)
    (assumption (holds.busy, ended_kept core.state core.ended t state holds.busy.ended (allowed_end core s t state may.allowed)))

pub BusyHolds-claim : (core : Columns) (s t : ℕ) → Holds core → MayClaim core s t → BusyHolds (claim core s t)
BusyHolds-claim core s t holds may = assumption (holds.busy, ended_kept core.state core.ended t waking holds.busy.ended (λ e. absurd (grind (arith, e))))

pub BusyHolds-make_runnable : (core : Columns) (s t : ℕ) → Holds core → MayMakeRunnable core s t → BusyHolds (make_runnable core s t)
BusyHolds-make_runnable core s t holds may = assumption (holds.busy, ended_kept core.state core.ended t running holds.busy.ended (λ e. absurd (grind (arith, e))))

pub BusyHolds-load_state : (core : Columns) (s t : ℕ) (mask : Option State) → Holds core → MayLoadState core s t mask → BusyHolds (load_state core s t mask)
BusyHolds-load_state core s t mask holds may = load_state-keeps BusyHolds core s t mask (load_free s t) holds.busy

pub BusyHolds-load_rq : (core : Columns) (s t : ℕ) → Holds core → MayLoad core s t → BusyHolds (load_rq core s t)
BusyHolds-load_rq core s t holds may = load_rq-keeps BusyHolds core s t (load_free s t) holds.busy

pub BusyHolds-load_busy : (core : Columns) (s t : ℕ) → Holds core → MayLoad core s t → BusyHolds (load_busy core s t)
BusyHolds-load_busy core s t holds may = load_busy-keeps BusyHolds core s t (load_free s t) holds.busy

pub BusyHolds-load_cpu : (core : Columns) (s t : ℕ) → Holds core → MayLoad core s t → BusyHolds (load_cpu core s t)
BusyHolds-load_cpu core s t holds may = assumption (holds.busy)

pub BusyHolds-load_count : (core : Columns) (s t : ℕ) → Holds core → MayLoad core s t → BusyHolds (load_count core s t)
BusyHolds-load_count core s t holds may = assumption (holds.busy)

pub BusyHolds-store_cpu : (core : Columns) (s t c : ℕ) → Holds core → MayStoreCpu core s t c → BusyHolds (store_cpu core s t c)
BusyHolds-store_cpu core s t c holds may =
    assumption (holds.busy, OneRunner-store_cpu core.on_cpu core.cpu core.current_task core.task_to_clear t c holds.busy.runner (idle_placeable core s t holds may.locked may.placeable))

pub BusyHolds-bump : (core : Columns) (s k : ℕ) → Holds core → MayBump core s k → BusyHolds (bump core s k)
BusyHolds-bump core s k holds may = assumption (holds.busy)

pub BusyHolds-load_cond : (core : Columns) (s k : ℕ) → Holds core → MayBump core s k → BusyHolds (load_cond core s k)
BusyHolds-load_cond core s k holds may = load_cond-keeps BusyHolds core s k (λ next x p. assumption (p)) holds.busy
