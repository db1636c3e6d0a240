-- What words and values name stays within the shape.
use Rattle.std.proofs.Common.{◌≡◌, ◌≢◌, ℕ, ◌<◌, inl, inr, List, Bool, true, false, Some, None, Option, sym, subst, ◌∙◌, arith}
use Rattle.std.specs.Prelude.{if◌then◌else◌, ◌==◌, ◌&&◌, is_none}
use Rattle.std.proofs.lemmas.Bool.{cases_eq}
use Rattle.std.proofs.lemmas.Bool.Decides.{nat_tests}
use Rattle.core_data.specs.Queue.{Queue}
use Rattle.core_data.specs.Columns.{Columns, put, put_at}
use Rattle.core_data.specs.declared.values.TaskVal.{TaskVal}
use Rattle.core_data.specs.declared.values.WaitEntry.{WaitEntry}
use Rattle.core_data.specs.declared.values.WorkItem.{WorkItem}
use Rattle.core_gives.specs.Queues.{MayGiveQueue, give_queue, give_up_if, gives_up}
use Rattle.core_gives.specs.Waits.{MayGiveWait, give_wait, give_by, walked_if, is_walk}
use Rattle.core_invariant.proofs.Puts.{put_there}
use Rattle.core_invariant.specs.Invariant.{Holds}
use Rattle.core_invariant.specs.Shapes.{ShapesHold, IsTaskVal, IsQueueVal, IsWaitVal}
use Rattle.core_kinds.specs.Locks.{MayTakeTask, take_task, MayGiveTask, give_task, MayTakeQueue, take_queue, unseen, MayTakeWorks, take_works, MayGiveWorks, give_works, MayTakeWait, take_wait}
use Rattle.core_kinds.specs.Running.{MayQueue, queue_task, MayDequeue, dequeue_task, MayMove, move_task, MaySetBusy, set_busy, MayClearBusy, clear_busy, MayBodyOut, body_out, MayBodyHome, body_home}
use Rattle.core_kinds.specs.Waking.{MaySetState, set_state, MayClaim, claim, MayMakeRunnable, make_runnable, MayLoad, MayStoreCpu, store_cpu, MayBump, bump, MayLoadState, load_state, load_rq}
use Rattle.core_kinds.specs.Waking.{load_busy, load_cpu, load_count, load_cond}
use Rattle.core_locks.proofs.Branches.{IsLoadFree, load_state-keeps, load_rq-keeps, load_busy-keeps, load_cond-keeps, IsOwnFree, set_state-keeps}
use Rattle.core_locks.proofs.Found.{some_of}
use Rattle.core_locks.proofs.Values.{HoldsOfValues-take, HoldsOfValues-give, IsTaskVal-kept, IsQueueVal-given}
use Rattle.handoff_data.specs.declared.state.State.{State}

-- no load changes what is named
load_free : (s t : ℕ) → IsLoadFree ShapesHold s t
load_free s t =
    record {
      reads = λ core r p. assumption (p);
      seen = λ core x p. assumption (p);
      log = λ core x p. assumption (p);
      matched = λ core p. assumption (p);
      saw_off = λ core p. assumption (p);
      saw_clear = λ core p. assumption (p);
      saw_rest = λ core p. assumption (p);
      saw_rest_off = λ core p. assumption (p);
      saw_rest_idle = λ core p. assumption (p);
      passed = λ core p. assumption (p);
    }

own_free : (s t : ℕ) → IsOwnFree ShapesHold s t
own_free s t =
    record {
      forget = λ core x y p. assumption (p);
      slept = λ core p. assumption (p);
      passed = λ core p. assumption (p);
    }

pub ShapesHold-take_task : (core : Columns) (s t : ℕ) → Holds core → MayTakeTask core s t → ShapesHold (take_task core s t)
ShapesHold-take_task core s t holds may = assumption (holds.shapes, HoldsOfValues-take _ (IsTaskVal core.cpus core.seats) core.val core.task_held s t holds.shapes.task_values)

pub ShapesHold-give_task : (core : Columns) (s t : ℕ) (val : TaskVal) (stood done : Bool) → Holds core → MayGiveTask core s t val stood done → ShapesHold (give_task core s t val)
ShapesHold-give_task core s t val stood done holds may =
    let taken = some_of (core.task_held s t) may.out in
    let named = IsTaskVal-kept core.cpus core.seats taken.0 val (holds.shapes.task_values.taken s t taken.0 taken.1) (may.kept taken.0 taken.1) may.wake_cpu may.dest in
    assumption (holds.shapes, HoldsOfValues-give _ (IsTaskVal core.cpus core.seats) core.val core.task_held s t val holds.shapes.task_values named)

pub ShapesHold-take_queue : (core : Columns) (s c : ℕ) → Holds core → MayTakeQueue core s c → ShapesHold (take_queue core s c)
ShapesHold-take_queue core s c holds may = assumption (holds.shapes, HoldsOfValues-take _ (IsQueueVal core.tasks) core.queue core.queue_held s c holds.shapes.queue_values)

-- a seat that gives its current task up still names it
left_named : (tasks : ℕ) (current to_clear : ℕ → Option ℕ) (s : ℕ) → ((k t : ℕ) → current k ≡ Some t → t < tasks) → ((k t : ℕ) → to_clear k ≡ Some t → t < tasks)
    → (k t : ℕ) → put to_clear s (if is_none (current s) then to_clear s else current s) k ≡ Some t → t < tasks
left_named tasks current to_clear s p q k t e = grind (arith, nat_tests, p s t, q k t)

given_queue : (b : Bool) (core : Columns) (s c : ℕ) (queue : Queue) → Holds core → MayGiveQueue core s c queue
    → ShapesHold (unseen (give_up_if b (record core { queue_lock = put core.queue_lock c None; queue = put core.queue c (Some queue); queue_held = put_at core.queue_held s c None }) s) s c)
given_queue true core s c queue holds may =
    let named = IsQueueVal-given core.tasks core.on_rq core.cpu c queue holds.shapes.queued may.fits may.left in
    let here : (k t : ℕ) → put core.current_task s None k ≡ Some t → k < core.cpus = λ k t e. grind (arith, nat_tests, holds.shapes.current_seat k t) in
    let current : (k t : ℕ) → put core.current_task s None k ≡ Some t → t < core.tasks = λ k t e. grind (arith, nat_tests, holds.shapes.current k t) in
    assumption (
      holds.shapes,
      HoldsOfValues-give _ (IsQueueVal core.tasks) core.queue core.queue_held s c queue holds.shapes.queue_values named,
      here,
      current,
      left_named core.tasks core.current_task core.task_to_clear s holds.shapes.current holds.shapes.to_clear,
    )
given_queue false core s c queue holds may =
    let named = IsQueueVal-given core.tasks core.on_rq core.cpu c queue holds.shapes.queued may.fits may.left in
    assumption (holds.shapes, HoldsOfValues-give _ (IsQueueVal core.tasks) core.queue core.queue_held s c queue holds.shapes.queue_values named)

pub ShapesHold-give_queue : (core : Columns) (s c : ℕ) (queue : Queue) → Holds core → MayGiveQueue core s c queue → ShapesHold (give_queue core s c queue)
ShapesHold-give_queue core s c queue holds may = given_queue (gives_up s c queue) core s c queue holds may

pub ShapesHold-take_wait : (core : Columns) (s k : ℕ) → Holds core → MayTakeWait core s k → ShapesHold (take_wait core s k)
ShapesHold-take_wait core s k holds may = assumption (holds.shapes, HoldsOfValues-take _ (IsWaitVal core.tasks) core.wait core.wait_held s k holds.shapes.wait_values)

-- a condition is owed by one seat more, or by one less
abbrev AreOwed : ℕ → ℕ → (ℕ → ℕ → Bool) → Type 0
AreOwed seats conds owes = (x l : ℕ) → owes x l ≡ true → (x < seats) × (l < conds)

owed_more : (seats conds : ℕ) (owes : ℕ → ℕ → Bool) (s k : ℕ) → AreOwed seats conds owes → s < seats → k < conds → AreOwed seats conds (put owes s (λ l. if l == k then true else owes s l))
owed_more seats conds owes s k p seat there x l h =
    elim (cases_eq x s) [
      | inl q ↦ elim (cases_eq l k) [
        | inl r ↦ (subst (λ z. z < seats) (sym q) seat, subst (λ z. z < conds) (sym r) there)
        | inr r ↦ p x l (grind (arith, nat_tests, h, q, r))
      ]
      | inr q ↦ p x l (grind (arith, nat_tests, h, q))
    ]

owed_less : (seats conds : ℕ) (owes : ℕ → ℕ → Bool) (s k : ℕ) → AreOwed seats conds owes → AreOwed seats conds (put owes s (λ l. if l == k then false else owes s l))
owed_less seats conds owes s k p x l h = p x l (grind (arith, nat_tests, h))

walked : (b : Bool) (core : Columns) (s k : ℕ) → ShapesHold core → ShapesHold (walked_if b core s k)
walked true core s k shapes = assumption (shapes, owed_less core.seats core.conds core.owes_walk s k shapes.owes)
walked false core s k shapes = shapes

given_wait : (core : Columns) (s k : ℕ) (given : List WaitEntry) (o : Option (List WaitEntry)) → ShapesHold core → IsWaitVal core.tasks given → ShapesHold (give_by core s k given o)
given_wait core s k given None shapes named = shapes
given_wait core s k given (Some taken) shapes named =
    walked (core.owes_walk s k && (core.has_retaken s k && is_walk (core.has_passed s k) taken)) _ s k
    (assumption (shapes, HoldsOfValues-give _ (IsWaitVal core.tasks) core.wait core.wait_held s k given shapes.wait_values named))

pub ShapesHold-give_wait : (core : Columns) (s k : ℕ) (given : List WaitEntry) → Holds core → MayGiveWait core s k given → ShapesHold (give_wait core s k given)
ShapesHold-give_wait core s k given holds may = given_wait core s k given (core.wait_held s k) holds.shapes may.tasks

pub ShapesHold-take_works : (core : Columns) (s c : ℕ) → Holds core → MayTakeWorks core s c → ShapesHold (take_works core s c)
ShapesHold-take_works core s c holds may = assumption (holds.shapes)

pub ShapesHold-give_works : (core : Columns) (s c : ℕ) (val : List WorkItem) → Holds core → MayGiveWorks core s c val → ShapesHold (give_works core s c val)
ShapesHold-give_works core s c val holds may = assumption (holds.shapes)

pub ShapesHold-body_out : (core : Columns) (s t : ℕ) → Holds core → MayBodyOut core s t → ShapesHold (body_out core s t)
ShapesHold-body_out core s t holds may = assumption (holds.shapes)

pub ShapesHold-body_home : (core : Columns) (s t : ℕ) (ended : Bool) → Holds core → MayBodyHome core s t ended → ShapesHold (body_home core s t ended)
ShapesHold-body_home core s t ended holds may = assumption (holds.shapes)

-- a task that is there is queued or taken off its queue
queued_kept : (tasks : ℕ) (on_rq : ℕ → ℕ) (t on : ℕ) → ((u : ℕ) → on_rq u ≢ 0 → u < tasks) → t < tasks → (u : ℕ) → put on_rq t on u ≢ 0 → u < tasks
queued_kept tasks on_rq t on p there u h = elim (cases_eq u t) [
  | inl q ↦ subst (λ z. z < tasks) (sym q) there
  | inr q ↦ p u (λ z. h (put_there on_rq t on u q ∙ z))
]

pub ShapesHold-queue_task : (core : Columns) (s c t : ℕ) → Holds core → MayQueue core s c t → ShapesHold (queue_task core s c t)
ShapesHold-queue_task core s c t holds may = assumption (holds.shapes, queued_kept core.tasks core.on_rq t 1 holds.shapes.queued may.task)

pub ShapesHold-dequeue_task : (core : Columns) (s c t : ℕ) → Holds core → MayDequeue core s c t → ShapesHold (dequeue_task core s c t)
ShapesHold-dequeue_task core s c t holds may = assumption (holds.shapes, queued_kept core.tasks core.on_rq t 0 holds.shapes.queued may.task)

pub ShapesHold-move_task : (core : Columns) (s c t : ℕ) (val : Queue) → Holds core → MayMove core s c t val → ShapesHold (move_task core s c t)
ShapesHold-move_task core s c t val holds may = assumption (holds.shapes, queued_kept core.tasks core.on_rq t 2 holds.shapes.queued may.task)

pub ShapesHold-set_busy : (core : Columns) (s c t : ℕ) (val : Queue) → Holds core → MaySetBusy core s c t val → ShapesHold (set_busy core s c t)
ShapesHold-set_busy core s c t val holds may =
    let here : s < core.cpus = subst (λ z. z < core.cpus) (sym may.own) may.processor in
    let busy : (u : ℕ) → put core.on_cpu t true u ≡ true → u < core.tasks = λ u e. grind (arith, nat_tests, holds.shapes.busy u, may.task) in
    let seat : (k u : ℕ) → put core.current_task s (Some t) k ≡ Some u → k < core.cpus = λ k u e. grind (arith, nat_tests, holds.shapes.current_seat k u, here) in
    let current : (k u : ℕ) → put core.current_task s (Some t) k ≡ Some u → u < core.tasks = λ k u e. grind (arith, nat_tests, holds.shapes.current k u, may.task) in
    assumption (holds.shapes, busy, seat, current)

pub ShapesHold-clear_busy : (core : Columns) (s t : ℕ) → Holds core → MayClearBusy core s t → ShapesHold (clear_busy core s t)
ShapesHold-clear_busy core s t holds may =
    let busy : (u : ℕ) → put core.on_cpu t false u ≡ true → u < core.tasks = λ u e. grind (arith, nat_tests, holds.shapes.busy u) in
    let clear : (k u : ℕ) → put core.task_to_clear s None k ≡ Some u → u < core.tasks = λ k u e. grind (arith, nat_tests, holds.shapes.to_clear k u) in
    assumption (holds.shapes, busy, clear)

pub ShapesHold-set_state : (core : Columns) (s t : ℕ) (state : State) → Holds core → MaySetState core s t state → ShapesHold (set_state core s t state)
ShapesHold-set_state core s t state holds may = set_state-keeps ShapesHold core s t state (own_free s t) (assumption (holds.shapes))

pub ShapesHold-claim : (core : Columns) (s t : ℕ) → Holds core → MayClaim core s t → ShapesHold (claim core s t)
ShapesHold-claim core s t holds may = assumption (holds.shapes)

pub ShapesHold-make_runnable : (core : Columns) (s t : ℕ) → Holds core → MayMakeRunnable core s t → ShapesHold (make_runnable core s t)
ShapesHold-make_runnable core s t holds may = assumption (holds.shapes)

pub ShapesHold-load_state : (core : Columns) (s t : ℕ) (mask : Option State) → Holds core → MayLoadState core s t mask → ShapesHold (load_state core s t mask)
ShapesHold-load_state core s t mask holds may = load_state-keeps ShapesHold core s t mask (load_free s t) holds.shapes

pub ShapesHold-load_rq : (core : Columns) (s t : ℕ) → Holds core → MayLoad core s t → ShapesHold (load_rq core s t)
ShapesHold-load_rq core s t holds may = load_rq-keeps ShapesHold core s t (load_free s t) holds.shapes

pub ShapesHold-load_busy : (core : Columns) (s t : ℕ) → Holds core → MayLoad core s t → ShapesHold (load_busy core s t)
ShapesHold-load_busy core s t holds may = load_busy-keeps ShapesHold core s t (load_free s t) holds.shapes

pub ShapesHold-load_cpu : (core : Columns) (s t : ℕ) → Holds core → MayLoad core s t → ShapesHold (load_cpu core s t)
ShapesHold-load_cpu core s t holds may = assumption (holds.shapes)

pub ShapesHold-load_count : (core : Columns) (s t : ℕ) → Holds core → MayLoad core s t → ShapesHold (load_count core s t)
ShapesHold-load_count core s t holds may = assumption (holds.shapes)

pub ShapesHold-store_cpu : (core : Columns) (s t c : ℕ) → Holds core → MayStoreCpu core s t c → ShapesHold (store_cpu core s t c)
ShapesHold-store_cpu core s t c holds may =
    let here : (u : ℕ) → u < core.tasks → put core.cpu t c u < core.cpus = λ u h. grind (arith, nat_tests, holds.shapes.cpu u h, may.processor) in
    assumption (holds.shapes, here)

pub ShapesHold-bump : (core : Columns) (s k : ℕ) → Holds core → MayBump core s k → ShapesHold (bump core s k)
ShapesHold-bump core s k holds may = assumption (holds.shapes, owed_more core.seats core.conds core.owes_walk s k holds.shapes.owes may.seat may.condition)

pub ShapesHold-load_cond : (core : Columns) (s k : ℕ) → Holds core → MayBump core s k → ShapesHold (load_cond core s k)
ShapesHold-load_cond core s k holds may = load_cond-keeps ShapesHold core s k (λ next x p. assumption (p)) holds.shapes
