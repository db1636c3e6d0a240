-- A current task that its seat hasn't taken off its queue has the state that the seat stored last, or was woken: kept by
-- each kind of step.
use Rattle.std.proofs.Common.{◌≡◌, ◌≢◌, ℕ, suc, inl, inr, refl, sym, ap, subst, ◌∙◌, List, [], ◌∷◌, arith}
use Rattle.std.specs.Prelude.{◌+◌, ◌/◌, ◌%◌, ◌^◌, true, Option, Some, None, unwrap_or}
use Rattle.std.proofs.lemmas.Bool.{cases_eq}
use Rattle.core_data.specs.Columns.{put, put_at}
use Rattle.core_data.specs.Queue.{Queue}
use Rattle.core_gives.specs.Queues.{gives_up}
use Rattle.core_invariant.specs.Invariant.{Holds}
use Rattle.core_kinds.specs.Steps.{running, dead, IsRunnable}
use Rattle.core_kinds.specs.Waking.{MaySetState, MayClaim, MayMakeRunnable}
use Rattle.core_law.specs.Steps.{May}
use Rattle.core_law.specs.declared.step.StepKind.{StepKind}
use Rattle.core_law.specs.declared.step.StepKind.TheVariants as step
use Rattle.core_stores.proofs.Columns.{put_there}
use Rattle.handoff_data.specs.declared.shape.Shape.{Shape}
use Rattle.handoff_data.specs.declared.state.State.{State}
use Rattle.word_rule.specs.Own.{OwnHolds, IsStill, last_own}
use Rattle.word_steps.proofs.CurrentKept.{same_task, unless}
use Rattle.word_steps.proofs.Puts.{word_here, word_apart, word_beside, fold_here, fold_else}
use Rattle.word_steps.specs.TraceFacts.{CurrentHolds}
use Rattle.word_steps.specs.Decode.{Homes, core_of}
use Rattle.word_steps.specs.Events.{IsEvent, IsNoted, Writes}
use Rattle.word_steps.specs.Folds.{current_task, stays_queued}
use Rattle.word_steps.specs.Records.{Rec, Took, Gave, OutBody, HomeBody, Queued, Dequeued, Moved, SetBusy, ClearedBusy, StateSet, Claimed, MadeRunnable, LoadedState, LoadedRq, LoadedBusy, LoadedCpu}
use Rattle.word_steps.specs.Records.{LoadedCount, StoredCpu, Bumped, LoadedCond}
use Rattle.word_steps.specs.Words.{LOCK, STATE, RQ, BUSY, CPU, COUNT, QUEUE_LOCK, WORKS_LOCK, WAIT_LOCK, COND, is_set}
use Rattle.word_steps.specs.declared.val.Val.TheVariants as val

pub own_start : (words : ℕ → ℕ → ℕ) → OwnHolds words (λ s. [])
own_start words s t stored is on e = absurd (grind (arith, e))

same_state : (x y : State) → ◌≡◌ {A = Option State} (Some x) (Some y) → x ≡ y
same_state x y e = ap (λ (o : Option State). unwrap_or o x) e

abbrev as_state : ℕ → State
as_state x = record { 0 = x }

-- a task that may run isn't dead
runs_alive : (state : State) → IsRunnable state → state ≢ dead
runs_alive state (inl runs) e = let same = ap (λ (x : State). x.0) e in absurd (omega (arith, runs, same))
runs_alive state (inr new) e = let same = ap (λ (x : State). x.0) e in absurd (omega (arith, new, same))

-- a wake of a task that isn't dead
woken : (stored state : State) → state ≢ dead → IsStill stored state → IsStill stored running
woken stored state alive (inl same) = inr (refl, λ e. alive (same ∙ e))
woken stored state alive (inr woke) = inr (refl, woke.1)

-- nobody wakes the dead
pub stays_dead : (state : State) → IsStill dead state → state ≡ dead
stays_dead state (inl same) = same
stays_dead state (inr woke) = absurd (woke.1 refl)

module _ (words : ℕ → ℕ → ℕ) (traces : ℕ → List Rec) (s : ℕ) (holds : OwnHolds words traces) where
  own_step : (words' : ℕ → ℕ → ℕ) (r : Rec)
      → ((j t : ℕ) (stored : State) → j ≢ s → current_task j (traces j) ≡ Some t → stays_queued (traces j) ≡ true
      → last_own (traces j) t ≡ Some stored → IsStill stored (record { 0 = words' t STATE }))
      → ((t : ℕ) (stored : State) → current_task s (r ∷ traces s) ≡ Some t → stays_queued (r ∷ traces s) ≡ true
      → last_own (r ∷ traces s) t ≡ Some stored → IsStill stored (record { 0 = words' t STATE }))
      → OwnHolds words' (put traces s (r ∷ traces s))
  own_step words' r others mine j t stored is on last = elim (cases_eq j s) [
    | inl q ↦ mine t stored
        (subst (λ (k : ℕ). current_task k (r ∷ traces s) ≡ Some t) q
        (sym (fold_here (current_task j) traces s r j q) ∙ is))
        (sym (fold_here stays_queued traces s r j q) ∙ on)
        (ap (λ (f : ℕ → Option State). f t) (sym (fold_here last_own traces s r j q)) ∙ last)
    | inr ne ↦ others j t stored ne (sym (fold_else (current_task j) traces s r j ne) ∙ is)
        (sym (fold_else stays_queued traces s r j ne) ∙ on)
        (ap (λ (f : ℕ → Option State). f t) (sym (fold_else last_own traces s r j ne)) ∙ last)
  ]

  -- a step that changes no state, makes no task current, and stores no state of one
  own_quiet : (words' : ℕ → ℕ → ℕ) (r : Rec) → ((t : ℕ) → words' t STATE ≡ words t STATE)
      → ((t : ℕ) → current_task s (r ∷ traces s) ≡ Some t → current_task s (traces s) ≡ Some t)
      → (stays_queued (r ∷ traces s) ≡ true → stays_queued (traces s) ≡ true)
      → last_own (r ∷ traces s) ≡ last_own (traces s) → OwnHolds words' (put traces s (r ∷ traces s))
  own_quiet words' r same current stays stored =
      own_step words' r (λ j t x ne is on last. as_was j t x is on last)
      (λ t x is on last. as_was s t x (current t is) (stays on)
      (ap (λ (f : ℕ → Option State). f t) (sym stored) ∙ last))
    where
      as_was : (j t : ℕ) (x : State) → current_task j (traces j) ≡ Some t → stays_queued (traces j) ≡ true
          → last_own (traces j) t ≡ Some x → IsStill x (record { 0 = words' t STATE })
      as_was j t x is on last = subst (λ (z : ℕ). IsStill x (record { 0 = z })) (sym (same t)) (holds j t x is on last)

  pub own_beside : (n c x : ℕ) (r : Rec) → STATE ≢ c
      → ((t : ℕ) → current_task s (r ∷ traces s) ≡ Some t → current_task s (traces s) ≡ Some t)
      → (stays_queued (r ∷ traces s) ≡ true → stays_queued (traces s) ≡ true)
      → last_own (r ∷ traces s) ≡ last_own (traces s) → OwnHolds (put_at words n c x) (put traces s (r ∷ traces s))
  own_beside n c x r beside current stays stored =
      own_quiet (put_at words n c x) r (λ t. word_beside words n c x t STATE beside) current stays stored

  pub own_still : (r : Rec) → ((t : ℕ) → current_task s (r ∷ traces s) ≡ Some t → current_task s (traces s) ≡ Some t)
      → (stays_queued (r ∷ traces s) ≡ true → stays_queued (traces s) ≡ true)
      → last_own (r ∷ traces s) ≡ last_own (traces s) → OwnHolds words (put traces s (r ∷ traces s))
  own_still r current stays stored = own_quiet words r (λ t. refl) current stays stored

  pub give_queue_own : (n x : ℕ) (taken given : Queue)
      → OwnHolds (put_at words n QUEUE_LOCK x) (put traces s (Gave n (val.Queue taken) (val.Queue given) ∷ traces s))
  give_queue_own n x taken given =
      own_beside n QUEUE_LOCK x (Gave n (val.Queue taken) (val.Queue given)) (λ e. omega (arith, e))
      (λ t e. unless (gives_up s n given) (current_task s (traces s)) t e) (λ e. e) refl

  pub dequeue_task_own : (c t m x : ℕ) → OwnHolds (put_at words t RQ x) (put traces s (Dequeued t c m ∷ traces s))
  dequeue_task_own c t m x =
      own_beside t RQ x (Dequeued t c m) (λ e. omega (arith, e)) (λ u e. e) (λ e. absurd (grind (arith, e))) refl

  -- of a task that was just picked no state is stored
  pub set_busy_own : (c n m x : ℕ) → OwnHolds (put_at words n BUSY x) (put traces s (SetBusy n c m ∷ traces s))
  set_busy_own c n m x =
      own_step (put_at words n BUSY x) (SetBusy n c m)
      (λ j t st ne is on last. subst (λ (z : ℕ). IsStill st (record { 0 = z }))
      (sym (word_beside words n BUSY x t STATE (λ e. omega (arith, e)))) (holds j t st is on last))
      (λ t st is on last. absurd (grind (
        arith,
        sym (put_there (last_own (traces s)) n None t (sym (same_task n t is))) ∙ last,
      )))

  -- the state of another task stays
  apart_state : (n x : ℕ) (j t : ℕ) (stored : State) → t ≢ n → current_task j (traces j) ≡ Some t
      → stays_queued (traces j) ≡ true → last_own (traces j) t ≡ Some stored
      → IsStill stored (record { 0 = put_at words n STATE x t STATE })
  apart_state n x j t stored apart is on last =
      subst (λ (z : ℕ). IsStill stored (record { 0 = z })) (sym (word_apart words n STATE x t STATE apart))
      (holds j t stored is on last)

  module _ (shape : Shape) (homes : Homes) (core : Holds (core_of shape words homes traces)) where
    pub set_state_own : (n : ℕ) (state : State) → MaySetState (core_of shape words homes traces) s n state
        → OwnHolds (put_at words n STATE state.0) (put traces s (StateSet n state ∷ traces s))
    set_state_own n state may =
        own_step (put_at words n STATE state.0) (StateSet n state)
        (λ j t st ne is on last. apart_state n state.0 j t st (λ q. ne (mine j t q is)) is on last)
        (λ t st is on last. let same = same_task n t (sym may.current ∙ is) in
        now t st (sym same) (same_state state st
        (sym (put_there (last_own (traces s)) n (Some state) t (sym same)) ∙ last)))
      where
        mine : (j t : ℕ) → t ≡ n → current_task j (traces j) ≡ Some t → j ≡ s
        mine j t q is = sym (core.busy.runner.current_here j n (subst (λ (k : ℕ). current_task j (traces j) ≡ Some k) q is))
            ∙ core.busy.runner.current_here s n may.current

        now : (t : ℕ) (st : State) → t ≡ n → state ≡ st
            → IsStill st (record { 0 = put_at words n STATE state.0 t STATE })
        now t st q same = inl (ap as_state
            (ap (λ (k : ℕ). put_at words n STATE state.0 k STATE) q ∙ word_here words n STATE state.0) ∙ same)

    -- a task that is claimed is off its queue
    pub claim_own : (n m : ℕ) → CurrentHolds words traces → MayClaim (core_of shape words homes traces) s n
        → OwnHolds (put_at words n STATE 0x200) (put traces s (Claimed n m ∷ traces s))
    claim_own n m current may =
        own_step (put_at words n STATE 0x200) (Claimed n m) (λ j t st ne is on last. as_was j t st is on last)
        (λ t st is on last. as_was s t st is on last)
      where
        as_was : (j t : ℕ) (st : State) → current_task j (traces j) ≡ Some t → stays_queued (traces j) ≡ true
            → last_own (traces j) t ≡ Some st → IsStill st (record { 0 = put_at words n STATE 0x200 t STATE })
        as_was j t st is on last =
            apart_state n 0x200 j t st (λ q. absurd (grind (
              arith,
              core.positions.matched.off s n may.locked may.saw_off,
              subst (λ (k : ℕ). words k RQ % 4 ≡ 1) q (current j t is on),
            ))) is on last

    -- one that is woken while it is some seat's current task isn't dead
    pub make_runnable_own : (n : ℕ) → MayMakeRunnable (core_of shape words homes traces) s n
        → OwnHolds (put_at words n STATE 0) (put traces s (MadeRunnable n ∷ traces s))
    make_runnable_own n may =
        own_step (put_at words n STATE 0) (MadeRunnable n) (λ j t st ne is on last. as_was j t st is on last)
        (λ t st is on last. as_was s t st is on last)
      where
        alive : (j : ℕ) → current_task j (traces j) ≡ Some n → ◌≢◌ {A = State} (record { 0 = words n STATE }) dead
        alive j is = elim may.ready [
          | inl new ↦ runs_alive (record { 0 = words n STATE }) (core.places.new_states.runnable n new.1)
          | inr rest ↦ elim rest [
            | inl matched ↦ core.positions.made_runnable s n matched.0 matched.1 matched.2 matched.4
            | inr there ↦ absurd (grind (arith, there.3, core.busy.runner.current_busy j n is))
          ]
        ]

        as_was : (j t : ℕ) (st : State) → current_task j (traces j) ≡ Some t → stays_queued (traces j) ≡ true
            → last_own (traces j) t ≡ Some st → IsStill st (record { 0 = put_at words n STATE 0 t STATE })
        as_was j t st is on last = elim (cases_eq t n) [
          | inr apart ↦ apart_state n 0 j t st apart is on last
          | inl q ↦ subst (λ (z : ℕ). IsStill st (record { 0 = z }))
              (sym (ap (λ (k : ℕ). put_at words n STATE 0 k STATE) q ∙ word_here words n STATE 0))
              (woken st (record { 0 = words n STATE })
              (alive j (subst (λ (k : ℕ). current_task j (traces j) ≡ Some k) q is))
              (subst (λ (k : ℕ). IsStill st (record { 0 = words k STATE })) q (holds j t st is on last)))
        ]

-- an event leaves the words and the trace that its kind says
as_made : (traces : ℕ → List Rec) (s : ℕ) (words' made : ℕ → ℕ → ℕ) (r noted : Rec) → words' ≡ made → r ≡ noted
    → OwnHolds made (put traces s (noted ∷ traces s)) → OwnHolds words' (put traces s (r ∷ traces s))
as_made traces s words' made r noted word record_is h =
    subst (λ (w : ℕ → ℕ → ℕ). OwnHolds w (put traces s (r ∷ traces s))) (sym word)
    (subst (λ (x : Rec). OwnHolds made (put traces s (x ∷ traces s))) (sym record_is) h)

module _ (shape : Shape) (words : ℕ → ℕ → ℕ) (homes : Homes) (traces : ℕ → List Rec) (s : ℕ)
    (core : Holds (core_of shape words homes traces)) (current : CurrentHolds words traces) (own : OwnHolds words traces) where
  own_by : (kind : StepKind) (r : Rec) (words' : ℕ → ℕ → ℕ) → IsNoted (core_of shape words homes traces) s kind r
      → Writes s kind words words' → May (core_of shape words homes traces) s kind → OwnHolds words' (put traces s (r ∷ traces s))
  own_by (step.TakeTask t) r w noted writes may =
      as_made traces s w (put_at words t LOCK (suc s)) r (Took t (val.Task noted.0)) writes noted.2
      (own_beside words traces s own t LOCK (suc s) (Took t (val.Task noted.0)) (λ e. omega (arith, e)) (λ u e. e) (λ e. e) refl)
  own_by (step.GiveTask t given stood done) r w noted writes may =
      as_made traces s w (put_at words t LOCK (0)) r (Gave t (val.Task noted.0) (val.Task given)) writes noted.2
      (own_beside words traces s own t LOCK (0) (Gave t (val.Task noted.0) (val.Task given)) (λ e. omega (arith, e)) (λ u e. e) (λ e. e) refl)
  own_by (step.TakeQueue c) r w noted writes may =
      as_made traces s w (put_at words c QUEUE_LOCK (suc s)) r (Took c (val.Queue noted.0)) writes noted.2
      (own_beside words traces s own c QUEUE_LOCK (suc s) (Took c (val.Queue noted.0)) (λ e. omega (arith, e)) (λ u e. e) (λ e. e) refl)
  own_by (step.GiveQueue c given) r w noted writes may =
      as_made traces s w (put_at words c QUEUE_LOCK 0) r (Gave c (val.Queue noted.0) (val.Queue given)) writes noted.2
      (give_queue_own words traces s own c 0 noted.0 given)
  own_by (step.TakeWait k) r w noted writes may =
      as_made traces s w (put_at words k WAIT_LOCK (suc s)) r (Took k (val.Wait noted.0)) writes noted.2
      (own_beside words traces s own k WAIT_LOCK (suc s) (Took k (val.Wait noted.0)) (λ e. omega (arith, e)) (λ u e. e) (λ e. e) refl)
  own_by (step.GiveWait k given) r w noted writes may =
      as_made traces s w (put_at words k WAIT_LOCK (0)) r (Gave k (val.Wait noted.0) (val.Wait given)) writes noted.2
      (own_beside words traces s own k WAIT_LOCK (0) (Gave k (val.Wait noted.0) (val.Wait given)) (λ e. omega (arith, e)) (λ u e. e) (λ e. e) refl)
  own_by (step.TakeWorks c) r w noted writes may =
      as_made traces s w (put_at words c WORKS_LOCK (suc s)) r (Took c (val.Works noted.0)) writes noted.2
      (own_beside words traces s own c WORKS_LOCK (suc s) (Took c (val.Works noted.0)) (λ e. omega (arith, e)) (λ u e. e) (λ e. e) refl)
  own_by (step.GiveWorks c given) r w noted writes may =
      as_made traces s w (put_at words c WORKS_LOCK (0)) r (Gave c (val.Works noted.0) (val.Works given)) writes noted.2
      (own_beside words traces s own c WORKS_LOCK (0) (Gave c (val.Works noted.0) (val.Works given)) (λ e. omega (arith, e)) (λ u e. e) (λ e. e) refl)
  own_by (step.BodyOut t) r w noted writes may =
      as_made traces s w words r (OutBody t (homes.ended t)) writes noted (own_still words traces s own (OutBody t (homes.ended t)) (λ u e. e) (λ e. e) refl)
  own_by (step.BodyHome t ended) r w noted writes may =
      as_made traces s w words r (HomeBody t ended) writes noted (own_still words traces s own (HomeBody t ended) (λ u e. e) (λ e. e) refl)
  own_by (step.QueueTask c t) r w noted writes may =
      as_made traces s w (put_at words t RQ writes.0) r (Queued t c (words t RQ % 4) (words t RQ / 4)) writes.1 noted
      (own_beside words traces s own t RQ writes.0 (Queued t c (words t RQ % 4) (words t RQ / 4)) (λ e. omega (arith, e)) (λ u e. e) (λ e. e) refl)
  own_by (step.DequeueTask c t) r w noted writes may =
      as_made traces s w (put_at words t RQ writes.0) r (Dequeued t c (words t RQ / 4)) writes.1 noted
      (dequeue_task_own words traces s own c t (words t RQ / 4) writes.0)
  own_by (step.MoveTask c t queue) r w noted writes may =
      as_made traces s w (put_at words t RQ writes.0) r (Moved t c (words t RQ / 4)) writes.1 noted
      (own_beside words traces s own t RQ writes.0 (Moved t c (words t RQ / 4)) (λ e. omega (arith, e)) (λ u e. e) (λ e. e) refl)
  own_by (step.SetBusy c t queue) r w noted writes may =
      as_made traces s w (put_at words t BUSY writes.0) r (SetBusy t c (words t BUSY / 2)) writes.1 noted
      (set_busy_own words traces s own c t (words t BUSY / 2) writes.0)
  own_by (step.ClearBusy t) r w noted writes may =
      as_made traces s w (put_at words t BUSY writes.0) r (ClearedBusy t (words t BUSY / 2)) writes.1 noted
      (own_beside words traces s own t BUSY writes.0 (ClearedBusy t (words t BUSY / 2)) (λ e. omega (arith, e)) (λ u e. e) (λ e. e) refl)
  own_by (step.SetState t state) r w noted writes may =
      as_made traces s w (put_at words t STATE state.0) r (StateSet t state) writes noted
      (set_state_own words traces s own shape homes core t state may)
  own_by (step.ClaimTask t) r w noted writes may =
      as_made traces s w (put_at words t STATE 0x200) r (Claimed t (words t RQ / 4)) writes noted
      (claim_own words traces s own shape homes core t (words t RQ / 4) current may)
  own_by (step.MakeRunnable t) r w noted writes may =
      as_made traces s w (put_at words t STATE 0) r (MadeRunnable t) writes noted
      (make_runnable_own words traces s own shape homes core t may)
  own_by (step.LoadState t mask) r w noted writes may =
      as_made traces s w words r (LoadedState t mask (record { 0 = words t STATE })) writes noted (own_still words traces s own (LoadedState t mask (record { 0 = words t STATE })) (λ u e. e)
      (λ e. e) refl)
  own_by (step.LoadRq t) r w noted writes may =
      as_made traces s w words r (LoadedRq t (words t RQ % 4) (words t RQ / 4)) writes noted (own_still words traces s own (LoadedRq t (words t RQ % 4) (words t RQ / 4)) (λ u e. e) (λ e. e) refl)
  own_by (step.LoadBusy t) r w noted writes may =
      as_made traces s w words r (LoadedBusy t (is_set (words t BUSY)) (words t BUSY / 2)) writes noted (own_still words traces s own (LoadedBusy t (is_set (words t BUSY)) (words t BUSY / 2))
      (λ u e. e) (λ e. e) refl)
  own_by (step.LoadCpu t) r w noted writes may =
      as_made traces s w words r (LoadedCpu t (words t CPU)) writes noted (own_still words traces s own (LoadedCpu t (words t CPU)) (λ u e. e) (λ e. e) refl)
  own_by (step.LoadCount t) r w noted writes may =
      as_made traces s w words r (LoadedCount t (words t COUNT)) writes noted (own_still words traces s own (LoadedCount t (words t COUNT)) (λ u e. e) (λ e. e) refl)
  own_by (step.StoreCpu t c) r w noted writes may =
      as_made traces s w (put_at words t CPU (c)) r (StoredCpu t c) writes noted
      (own_beside words traces s own t CPU (c) (StoredCpu t c) (λ e. omega (arith, e)) (λ u e. e) (λ e. e) refl)
  own_by (step.Bump k) r w noted writes may =
      as_made traces s w (put_at words k COND ((words k COND + 1) % 2 ^ 64)) r (Bumped k (words k COND)) writes noted
      (own_beside words traces s own k COND ((words k COND + 1) % 2 ^ 64) (Bumped k (words k COND)) (λ e. omega (arith, e)) (λ u e. e) (λ e. e) refl)
  own_by (step.LoadCond k) r w noted writes may =
      as_made traces s w words r (LoadedCond k (words k COND)) writes noted (own_still words traces s own (LoadedCond k (words k COND)) (λ u e. e) (λ e. e) refl)

pub own_event : (shape : Shape) (words : ℕ → ℕ → ℕ) (homes : Homes) (traces : ℕ → List Rec) (s : ℕ) (r : Rec)
    (words' : ℕ → ℕ → ℕ) (homes' : Homes) → IsEvent shape words homes traces s r words' homes'
    → Holds (core_of shape words homes traces) → CurrentHolds words traces → OwnHolds words traces
    → OwnHolds words' (put traces s (r ∷ traces s))
own_event shape words homes traces s r words' homes' event core current own =
    own_by shape words homes traces s core current own event.kind r words' event.noted event.writes event.event.possible
