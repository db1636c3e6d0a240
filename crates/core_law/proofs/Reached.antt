-- Each event keeps the invariant, and is one move of one task or none; so the invariant holds of each core that is
-- reached, and a core is reached by one event more.
use Rattle.std.proofs.Common.{◌≡◌, ◌≢◌, ◌≤◌, ℕ, zero, suc, take, sym, ap, List, [], ◌∷◌, ◌++◌, subst, refl, arith}
use Rattle.core_data.specs.Opening.{IsStart, first_task}
use Rattle.core_data.specs.Columns.{Columns}
use Rattle.std.specs.Prelude.{Bool}
use Rattle.handoff_data.specs.Shape.{IsShape}
use Rattle.handoff_data.specs.declared.shape.Shape.{Shape}
use Rattle.core_invariant.specs.Invariant.{Holds}
use Rattle.core_journals.proofs.MovingSteps.{Moves-queue_task, Moves-dequeue_task, Moves-move_task, Moves-set_busy, Moves-clear_busy, Moves-claim}
use Rattle.core_journals.proofs.StayingSteps.{Moves-take_task, Moves-give_task, Moves-take_queue, Moves-give_queue, Moves-take_wait, Moves-give_wait, Moves-take_works, Moves-give_works}
use Rattle.core_journals.proofs.StayingSteps.{Moves-body_out, Moves-body_home, Moves-set_state, Moves-make_runnable, Moves-load_state, Moves-load_rq, Moves-load_busy, Moves-load_cpu, Moves-load_count}
use Rattle.core_journals.proofs.StayingSteps.{Moves-store_cpu, Moves-bump, Moves-load_cond}
use Rattle.core_journals.specs.Places.{OneMoveOrNone}
use Rattle.core_locks.proofs.Rows.{each_word}
use Rattle.core_law.proofs.Kept.{Holds-start, Holds-take_task, Holds-give_task, Holds-take_queue, Holds-give_queue, Holds-take_wait, Holds-give_wait, Holds-take_works, Holds-give_works}
use Rattle.core_law.proofs.Kept.{Holds-body_out, Holds-body_home, Holds-queue_task, Holds-dequeue_task, Holds-move_task, Holds-set_busy, Holds-clear_busy, Holds-set_state, Holds-claim}
use Rattle.core_law.proofs.Kept.{Holds-make_runnable, Holds-load_state, Holds-load_rq, Holds-load_busy, Holds-load_cpu, Holds-load_count, Holds-store_cpu, Holds-bump, Holds-load_cond}
use Rattle.core_kinds.specs.Steps.{dead}
use Rattle.core_law.specs.Reached.{IsReached, IsOpening}
use Rattle.core_law.specs.Runs.{Ran, EachMoves}
use Rattle.core_law.specs.Steps.{May, after, Step}
use Rattle.core_data.specs.declared.words.TaskWords.{TaskWords}
use Rattle.core_law.specs.declared.event.Event.{Event}
use Rattle.core_law.specs.declared.step.StepKind.{StepKind}
use Rattle.core_law.specs.declared.step.StepKind.TheVariants.{TakeTask, GiveTask, TakeQueue, GiveQueue, TakeWait, GiveWait, TakeWorks, GiveWorks, BodyOut, BodyHome, QueueTask, DequeueTask, MoveTask}
use Rattle.core_law.specs.declared.step.StepKind.TheVariants.{SetBusy, ClearBusy, SetState, ClaimTask, MakeRunnable, LoadState, LoadRq, LoadBusy, LoadCpu, LoadCount, StoreCpu, Bump, LoadCond}

pub Holds-after : (core : Columns) (s : ℕ) (step : StepKind) → Holds core → May core s step → Holds (after core s step)
Holds-after core s (TakeTask t) holds may = Holds-take_task core s t holds may
Holds-after core s (GiveTask t val stood done) holds may = Holds-give_task core s t val stood done holds may
Holds-after core s (TakeQueue c) holds may = Holds-take_queue core s c holds may
Holds-after core s (GiveQueue c val) holds may = Holds-give_queue core s c val holds may
Holds-after core s (TakeWait k) holds may = Holds-take_wait core s k holds may
Holds-after core s (GiveWait k val) holds may = Holds-give_wait core s k val holds may
Holds-after core s (TakeWorks c) holds may = Holds-take_works core s c holds may
Holds-after core s (GiveWorks c val) holds may = Holds-give_works core s c val holds may
Holds-after core s (BodyOut t) holds may = Holds-body_out core s t holds may
Holds-after core s (BodyHome t ended) holds may = Holds-body_home core s t ended holds may
Holds-after core s (QueueTask c t) holds may = Holds-queue_task core s c t holds may
Holds-after core s (DequeueTask c t) holds may = Holds-dequeue_task core s c t holds may
Holds-after core s (MoveTask c t val) holds may = Holds-move_task core s c t val holds may
Holds-after core s (SetBusy c t val) holds may = Holds-set_busy core s c t val holds may
Holds-after core s (ClearBusy t) holds may = Holds-clear_busy core s t holds may
Holds-after core s (SetState t state) holds may = Holds-set_state core s t state holds may
Holds-after core s (ClaimTask t) holds may = Holds-claim core s t holds may
Holds-after core s (MakeRunnable t) holds may = Holds-make_runnable core s t holds may
Holds-after core s (LoadState t mask) holds may = Holds-load_state core s t mask holds may
Holds-after core s (LoadRq t) holds may = Holds-load_rq core s t holds may
Holds-after core s (LoadBusy t) holds may = Holds-load_busy core s t holds may
Holds-after core s (LoadCpu t) holds may = Holds-load_cpu core s t holds may
Holds-after core s (LoadCount t) holds may = Holds-load_count core s t holds may
Holds-after core s (StoreCpu t c) holds may = Holds-store_cpu core s t c holds may
Holds-after core s (Bump k) holds may = Holds-bump core s k holds may
Holds-after core s (LoadCond k) holds may = Holds-load_cond core s k holds may

pub Holds-step : (core : Columns) (e : Event) (next : Columns) → Holds core → Step core e next → Holds next
Holds-step core e next holds step = subst Holds (sym step.next_is) (Holds-after core e.seat e.step holds step.possible)

pub Moves-after : (core : Columns) (s : ℕ) (step : StepKind) → Holds core → May core s step → OneMoveOrNone s core (after core s step)
Moves-after core s (TakeTask t) holds may = Moves-take_task core s t holds may
Moves-after core s (GiveTask t val stood done) holds may = Moves-give_task core s t val stood done holds may
Moves-after core s (TakeQueue c) holds may = Moves-take_queue core s c holds may
Moves-after core s (GiveQueue c val) holds may = Moves-give_queue core s c val holds may
Moves-after core s (TakeWait k) holds may = Moves-take_wait core s k holds may
Moves-after core s (GiveWait k val) holds may = Moves-give_wait core s k val holds may
Moves-after core s (TakeWorks c) holds may = Moves-take_works core s c holds may
Moves-after core s (GiveWorks c val) holds may = Moves-give_works core s c val holds may
Moves-after core s (BodyOut t) holds may = Moves-body_out core s t holds may
Moves-after core s (BodyHome t ended) holds may = Moves-body_home core s t ended holds may
Moves-after core s (QueueTask c t) holds may = Moves-queue_task core s c t holds may
Moves-after core s (DequeueTask c t) holds may = Moves-dequeue_task core s c t holds may
Moves-after core s (MoveTask c t val) holds may = Moves-move_task core s c t val holds may
Moves-after core s (SetBusy c t val) holds may = Moves-set_busy core s c t val holds may
Moves-after core s (ClearBusy t) holds may = Moves-clear_busy core s t holds may
Moves-after core s (SetState t state) holds may = Moves-set_state core s t state holds may
Moves-after core s (ClaimTask t) holds may = Moves-claim core s t holds may
Moves-after core s (MakeRunnable t) holds may = Moves-make_runnable core s t holds may
Moves-after core s (LoadState t mask) holds may = Moves-load_state core s t mask holds may
Moves-after core s (LoadRq t) holds may = Moves-load_rq core s t holds may
Moves-after core s (LoadBusy t) holds may = Moves-load_busy core s t holds may
Moves-after core s (LoadCpu t) holds may = Moves-load_cpu core s t holds may
Moves-after core s (LoadCount t) holds may = Moves-load_count core s t holds may
Moves-after core s (StoreCpu t c) holds may = Moves-store_cpu core s t c holds may
Moves-after core s (Bump k) holds may = Moves-bump core s k holds may
Moves-after core s (LoadCond k) holds may = Moves-load_cond core s k holds may

-- a run keeps the invariant
pub Holds-ran : (core : Columns) (events : List Event) (next : Columns) → Holds core → Ran core events next → Holds next
Holds-ran core [] next holds ran = subst (λ (x : Columns). Holds x) (sym ran) holds
Holds-ran core (e ∷ events) next holds ran = Holds-ran (after core e.seat e.step) events next (Holds-after core e.seat e.step holds ran.0) ran.1

-- of an opening core too: no task is dead, so it doesn't matter which bodies have ended
none_dead : (shape : Shape) (core : Columns) → IsStart shape core → (t : ℕ) → core.state t ≢ dead
none_dead shape core start t =
    subst (λ (x : Columns). x.state t ≢ dead) (sym start.rows)
    (each_word (λ x. x ≢ dead) (λ (w : TaskWords). w.state) (record { 0 = 0 }) shape.tasks (first_task start.mask) t (λ e. grind (arith, e)) (λ e. grind (arith, e)))

-- .. with these bodies
Holds-ended : (core : Columns) (ended : ℕ → Bool) → Holds core → ((t : ℕ) → core.state t ≢ dead) → Holds (record core { ended = ended })
Holds-ended core ended h alive =
    record {
      shapes = assumption (h.shapes);
      locks = assumption (h.locks);
      queues = assumption (h.queues);
      busy = record {
        runner = h.busy.runner;
        named = h.busy.named;
        bodies = h.busy.bodies;
        ended = λ t e. absurd (alive t e);
      };
      places = assumption (h.places);
      positions = assumption (h.positions);
      journals = assumption (h.journals);
      sleepers = assumption (h.sleepers);
    }

pub Holds-opening : (shape : Shape) (core : Columns) → IsShape shape → IsOpening shape core → Holds core
Holds-opening shape core is_shape opening =
    subst Holds (sym opening.alike)
    (Holds-ended opening.start opening.ended (Holds-start shape opening.start is_shape opening.is_start)
    (none_dead shape opening.start opening.is_start))

-- so it holds of each core that is reached
pub Holds-reached : (core : Columns) → IsReached core → Holds core
Holds-reached core reached = Holds-ran reached.opening reached.events core (Holds-opening reached.shape reached.opening reached.is_shape reached.is_opening) reached.ran

-- an opening core is reached
pub reached_opening : (shape : Shape) (core : Columns) → IsShape shape → IsOpening shape core → IsReached core
reached_opening shape core is_shape opening =
    record { shape = shape; is_shape = is_shape; opening = core; is_opening = opening; events = []; ran = refl }

-- a run goes on by one event
pub Ran-push : (core : Columns) (events : List Event) (mid : Columns) (e : Event) → Ran core events mid → May mid e.seat e.step → Ran core (events ++ e ∷ []) (after mid e.seat e.step)
Ran-push core [] mid e ran may = (subst (λ (x : Columns). May x e.seat e.step) ran may, ap (λ (x : Columns). after x e.seat e.step) ran)
Ran-push core (x ∷ events) mid e ran may = (ran.0, Ran-push (after core x.seat x.step) events mid e ran.1 may)

-- .. and what it leads to is reached
pub reached_step : (core : Columns) (e : Event) (next : Columns) → IsReached core → Step core e next → IsReached next
reached_step core e next reached step =
    record {
      shape = reached.shape;
      is_shape = reached.is_shape;
      opening = reached.opening;
      is_opening = reached.is_opening;
      events = reached.events ++ e ∷ [];
      ran = subst (λ (x : Columns). Ran reached.opening (reached.events ++ e ∷ []) x) (sym step.next_is)
          (Ran-push reached.opening reached.events core e reached.ran step.possible);
    }

Moves-ran : (core : Columns) (events : List Event) (next : Columns) → Holds core → Ran core events next → EachMoves core events
Moves-ran core [] next holds ran = tt
Moves-ran core (e ∷ events) next holds ran =
    (Moves-after core e.seat e.step holds ran.0, Moves-ran (after core e.seat e.step) events next (Holds-after core e.seat e.step holds ran.0) ran.1)

pub holds_of : (core : Columns) (events : List Event) (next : Columns) → Ran core events next → Holds core → Holds next
holds_of core events next ran holds = Holds-ran core events next holds ran

-- the events taken so far
pub moves_taken : (core : Columns) (events : List Event) (taken index : ℕ) (next : Columns) → taken ≡ index → Ran core (take index events) next → Holds core → EachMoves core (take taken events)
moves_taken core events taken index next same ran holds =
    subst (λ (n : ℕ). EachMoves core (take n events)) (sym same) (Moves-ran core (take index events) next holds ran)

-- the invariant holds after each of the events taken
prefix : (core : Columns) (events : List Event) (taken n : ℕ) (next : Columns) → n ≤ taken → Ran core (take taken events) next → Holds core → (mid : Columns) × Ran core (take n events) mid × Holds mid
prefix core [] taken zero next within ran holds = (core, refl, holds)
prefix core [] taken (suc n) next within ran holds = (core, refl, holds)
prefix core (e ∷ events) taken zero next within ran holds = (core, refl, holds)
prefix core (e ∷ events) zero (suc n) next within ran holds = absurd (omega (arith, within))
prefix core (e ∷ events) (suc taken) (suc n) next within ran holds =
    let less : n ≤ taken = omega (arith, within) in
    let r = prefix (after core e.seat e.step) events taken n next less ran.1 (Holds-after core e.seat e.step holds ran.0) in
    (r.0, (ran.0, r.1), r.2)

pub kept_after_each : (core : Columns) (events : List Event) (taken index : ℕ) (next : Columns) → taken ≡ index → Ran core (take index events) next → Holds core
    → (n : ℕ) → n ≤ taken → (mid : Columns) × Ran core (take n events) mid × Holds mid
kept_after_each core events taken index next same ran holds n within =
    let less : n ≤ index = omega (arith, within, same) in prefix core events index n next less ran holds
