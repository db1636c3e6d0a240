-- A task that the holder of a queue's lock knows to run is queued there, and no other seat runs it: kept by each step.
use Rattle.std.proofs.Common.{◌≡◌, ◌≢◌, ℕ, suc, inl, inr, refl, sym, ap, subst, ◌∙◌, List, [], ◌∷◌, arith}
use Rattle.std.specs.Prelude.{◌+◌, ◌%◌, ◌/◌, ◌==◌, ◌&&◌, ◌||◌, ◌⊎◌, nat_lt, Bool, true, false, Option, Some, None, is_some, if◌then◌else◌}
use Rattle.std.proofs.lemmas.Bool.{cases_eq, cases_Bool}
use Rattle.std.proofs.lemmas.Bool.Decides.{nat_tests}
use mathlib.Core.Bool.{not}
use Rattle.core_data.specs.Columns.{put, put_at}
use Rattle.core_data.specs.Queue.{Queue, times_in}
use Rattle.core_gives.specs.Queues.{is_some_of, gives_up}
use Rattle.core_invariant.specs.Invariant.{Holds}
use Rattle.core_kinds.specs.Locks.{MayTakeQueue}
use Rattle.core_kinds.specs.Running.{MayQueue, MayDequeue, MayMove, MaySetBusy}
use Rattle.core_kinds.specs.Steps.{IsRunnable}
use Rattle.core_kinds.specs.Waking.{MayStoreCpu, MaySetState, MayClaim}
use Rattle.core_stores.proofs.Columns.{put_there, put_other}
use Rattle.handoff_data.specs.declared.shape.Shape.{Shape}
use Rattle.handoff_data.specs.declared.state.State.{State}
use Rattle.word_rule.specs.Standing.{RunsHold, MayRunThere, may_run, is_runnable}
use Rattle.word_steps.proofs.CurrentKept.{same_task, unless}
use Rattle.word_steps.proofs.MovingKept.{one_seat}
use Rattle.word_steps.proofs.Puts.{word_here, word_apart, word_beside, fold_here, fold_else}
use Rattle.word_steps.specs.TraceFacts.{CurrentHolds, PutHolds}
use Rattle.word_steps.specs.Decode.{Homes, core_of}
use Rattle.word_steps.specs.Folds.{current_task, stays_queued, queue_held, has_put, has_added, put_after, added_after, put_column, put_column_if, put_both}
use Rattle.word_steps.specs.Records.{Rec, Took, Gave, Queued, Dequeued, Moved, SetBusy, StateSet, Claimed, MadeRunnable, LoadedState, StoredCpu}
use Rattle.word_steps.specs.Words.{STATE, BUSY, QUEUE_LOCK, RQ, CPU, holder, is_set}
use Rattle.word_steps.specs.declared.val.Val.TheVariants as val

pub runs_start : (words : ℕ → ℕ → ℕ) → RunsHold words (λ s. [])
runs_start words s c t locked e = absurd (grind (arith, e))

-- a mark that isn't of this task
off_column : (h : ℕ → ℕ → Bool) (n c t : ℕ) → put_column h n false c t ≡ true → (t ≢ n) × (h c t ≡ true)
off_column h n c t e = (λ q. absurd (grind (arith, nat_tests, q, e)), grind (arith, nat_tests, e))

-- a mark that is put for one task in one queue, or an old one
of_both : (h : ℕ → ℕ → Bool) (d n : ℕ) (b : Bool) (c t : ℕ) → put_both h d n b c t ≡ true
    → ((c ≡ d) × (t ≡ n) × (b ≡ true)) ⊎ (h c t ≡ true)
of_both h d n b c t e = elim (cases_eq c d) [
  | inr apart ↦ inr (grind (arith, nat_tests, apart, e))
  | inl p ↦ elim (cases_eq t n) [
    | inr apart ↦ inr (grind (arith, nat_tests, apart, e))
    | inl q ↦ inl (p, q, grind (arith, nat_tests, p, q, e))
  ]
]

of_choice : (b : Bool) (h : ℕ → ℕ → Bool) (d n c t : ℕ) → (if b then put_both h d n true else h) c t ≡ true
    → ((b ≡ true) × (c ≡ d) × (t ≡ n)) ⊎ (h c t ≡ true)
of_choice true h d n c t e = elim (of_both h d n true c t e) [ inl now ↦ inl (refl, now.0, now.1) | inr was ↦ inr was ]
of_choice false h d n c t e = inr e

-- a task that a seat has put on a queue was added since
added_by_step : (r : Rec) (p a : ℕ → ℕ → Bool) → ((c t : ℕ) → p c t ≡ true → a c t ≡ true) → (c t : ℕ)
    → put_after r p c t ≡ true → added_after r a c t ≡ true
added_by_step (Took n (val.Queue v)) p a old c t e = elim (cases_eq c n) [
  | inl q ↦ absurd (grind (arith, nat_tests, q, e))
  | inr ne ↦ let was : p c t ≡ true = grind (arith, nat_tests, ne, e) in grind (arith, nat_tests, ne, old c t was)
]
added_by_step (Queued n d on m) p a old c t e = elim (of_both p d n true c t e) [
  | inl now ↦ grind (arith, nat_tests, now.1)
  | inr was ↦ grind (arith, nat_tests, old c t was)
]
added_by_step (Dequeued n d m) p a old c t e = old c t (off_column p n c t e).1
added_by_step (Moved n d m) p a old c t e = old c t (off_column p n c t e).1
added_by_step r p a old c t e = old c t e

added_where_put : (trace : List Rec) (c t : ℕ) → has_put trace c t ≡ true → has_added trace c t ≡ true
added_where_put [] c t e = absurd (grind (arith, e))
added_where_put (r ∷ rs) c t e = added_by_step r (has_put rs) (has_added rs)
    (λ d u was. added_where_put rs d u was) c t e

-- one that waits in a queue at home is queued there once, and isn't its next
waits_there : (waits on at c : ℕ) (next : Bool)
    → waits + (if next then 1 else 0) ≡ (if (on == 1) && (at == c) then 1 else 0) → nat_lt 0 waits ≡ true
    → (on ≡ 1) × (at ≡ c) × (next ≡ false)
waits_there waits on at c true e w = absurd (grind (arith, nat_tests, e, w))
waits_there waits on at c false e w = (grind (arith, nat_tests, e, w), grind (arith, nat_tests, e, w), refl)

next_is : (o : Option ℕ) (t : ℕ) → o ≡ Some t → is_some_of o t ≡ false → ⊥
next_is o t e f = absurd (grind (arith, nat_tests, subst (λ (z : Option ℕ). is_some_of z t ≡ false) e f))

some_is : (o : Option ℕ) (t : ℕ) → is_some_of o t ≡ true → o ≡ Some t
some_is None t e = absurd (grind (arith, e))
some_is (Some j) t e = let same : j ≡ t = grind (arith, nat_tests, e) in ap Some same

both_true : (a b : Bool) → (a && b) ≡ true → (a ≡ true) × (b ≡ true)
both_true true b e = (refl, e)
both_true false b e = absurd (grind (arith, e))

either_true : (a b : Bool) → (a || b) ≡ true → (a ≡ true) ⊎ (b ≡ true)
either_true true b e = inl refl
either_true false b e = inr e

module _ (words : ℕ → ℕ → ℕ) (traces : ℕ → List Rec) (s : ℕ) (holds : RunsHold words traces) where
  pub runs_step : (words' : ℕ → ℕ → ℕ) (r : Rec)
      → ((j c t : ℕ) → j ≢ s → holder (words' c QUEUE_LOCK) ≡ Some j → may_run j (traces j) c t ≡ true
      → MayRunThere words' (put traces s (r ∷ traces s)) j c t)
      → ((c t : ℕ) → holder (words' c QUEUE_LOCK) ≡ Some s → may_run s (r ∷ traces s) c t ≡ true
      → MayRunThere words' (put traces s (r ∷ traces s)) s c t)
      → RunsHold words' (put traces s (r ∷ traces s))
  runs_step words' r others mine j c t locked e = elim (cases_eq j s) [
    | inl q ↦ subst (λ (k : ℕ). MayRunThere words' (put traces s (r ∷ traces s)) k c t) (sym q)
        (mine c t (locked ∙ ap Some q) (subst (λ (k : ℕ). may_run k (r ∷ traces s) c t ≡ true) q
        (ap (λ (f : ℕ → ℕ → Bool). f c t) (sym (fold_here (may_run j) traces s r j q)) ∙ e)))
    | inr ne ↦ others j c t ne locked (ap (λ (f : ℕ → ℕ → Bool). f c t) (sym (fold_else (may_run j) traces s r j ne))
        ∙ e)
  ]

  -- nobody but j has t as current after the step, where so it was, and the seat of the step didn't pick t or is j
  runner_after : (r : Rec) (j t : ℕ) → ((k : ℕ) → current_task k (traces k) ≡ Some t → k ≡ j)
      → (current_task s (r ∷ traces s) ≡ Some t → s ≡ j)
      → (k : ℕ) → current_task k (put traces s (r ∷ traces s) k) ≡ Some t → k ≡ j
  runner_after r j t old new k is = elim (cases_eq k s) [
    | inl e ↦ e ∙ new (subst (λ (z : ℕ). current_task z (r ∷ traces s) ≡ Some t) e
        (sym (fold_here (current_task k) traces s r k e) ∙ is))
    | inr ne ↦ old k (sym (fold_else (current_task k) traces s r k ne) ∙ is)
  ]

  carried : (words' : ℕ → ℕ → ℕ) (r : Rec) (j c t : ℕ) → MayRunThere words traces j c t → words' t RQ ≡ words t RQ
      → words' t CPU ≡ words t CPU
      → IsRunnable (record { 0 = words' t STATE }) → (current_task s (r ∷ traces s) ≡ Some t → s ≡ j)
      → MayRunThere words' (put traces s (r ∷ traces s)) j c t
  carried words' r j c t old rq cpu runnable picks = record {
    queued = ap (λ (z : ℕ). z % 4) rq ∙ old.queued;
    here = cpu ∙ old.here;
    runnable = runnable;
    own = runner_after r j t old.own picks;
  }

  as_before : (words' : ℕ → ℕ → ℕ) (t : ℕ) → words' t STATE ≡ words t STATE → IsRunnable (record { 0 = words t STATE })
      → IsRunnable (record { 0 = words' t STATE })
  as_before words' t e runnable = subst (λ (z : ℕ). IsRunnable (record { 0 = z })) (sym e) runnable

  -- a step that changes no lock of a queue, and no queue word, processor word or state, makes no task current, and by
  -- which nothing is known to run
  pub runs_quiet : (words' : ℕ → ℕ → ℕ) (r : Rec) → ((c : ℕ) → words' c QUEUE_LOCK ≡ words c QUEUE_LOCK)
      → ((t : ℕ) → words' t CPU ≡ words t CPU)
      → ((t : ℕ) → words' t RQ ≡ words t RQ) → ((t : ℕ) → words' t STATE ≡ words t STATE)
      → may_run s (r ∷ traces s) ≡ may_run s (traces s) → current_task s (r ∷ traces s) ≡ current_task s (traces s)
      → RunsHold words' (put traces s (r ∷ traces s))
  runs_quiet words' r queue cpu rq state same current =
      runs_step words' r (λ j c t ne locked e. as_was j c t locked e)
      (λ c t locked e. as_was s c t locked (ap (λ (f : ℕ → ℕ → Bool). f c t) (sym same) ∙ e))
    where
      as_was : (j c t : ℕ) → holder (words' c QUEUE_LOCK) ≡ Some j → may_run j (traces j) c t ≡ true
          → MayRunThere words' (put traces s (r ∷ traces s)) j c t
      as_was j c t locked e =
          let old = holds j c t (ap holder (sym (queue c)) ∙ locked) e in
          carried words' r j c t old (rq t) (cpu t) (as_before words' t (state t) old.runnable)
          (λ is. old.own s (sym current ∙ is))

  pub runs_beside : (n c x : ℕ) (r : Rec) → QUEUE_LOCK ≢ c → CPU ≢ c → RQ ≢ c → STATE ≢ c
      → may_run s (r ∷ traces s) ≡ may_run s (traces s) → current_task s (r ∷ traces s) ≡ current_task s (traces s)
      → RunsHold (put_at words n c x) (put traces s (r ∷ traces s))
  runs_beside n c x r queue cpu rq state same current =
      runs_quiet (put_at words n c x) r (λ d. word_beside words n c x d QUEUE_LOCK queue)
      (λ t. word_beside words n c x t CPU cpu)
      (λ t. word_beside words n c x t RQ rq) (λ t. word_beside words n c x t STATE state) same current

  pub runs_still : (r : Rec) → may_run s (r ∷ traces s) ≡ may_run s (traces s)
      → current_task s (r ∷ traces s) ≡ current_task s (traces s)
      → RunsHold words (put traces s (r ∷ traces s))
  runs_still r same current = runs_quiet words r (λ c. refl) (λ t. refl) (λ t. refl) (λ t. refl) same current

  -- the lock of a queue is taken or given
  lock_beside : (n x : ℕ) (r : Rec) (j c t : ℕ) → MayRunThere words traces j c t
      → (current_task s (r ∷ traces s) ≡ Some t → current_task s (traces s) ≡ Some t)
      → MayRunThere (put_at words n QUEUE_LOCK x) (put traces s (r ∷ traces s)) j c t
  lock_beside n x r j c t old current =
      carried (put_at words n QUEUE_LOCK x) r j c t old (word_beside words n QUEUE_LOCK x t RQ (λ q. omega (arith, q)))
      (word_beside words n QUEUE_LOCK x t CPU (λ q. omega (arith, q)))
      (as_before (put_at words n QUEUE_LOCK x) t (word_beside words n QUEUE_LOCK x t STATE
      (λ q. omega (arith, q))) old.runnable) (λ is. old.own s (current is))

  pub give_queue_runs : (n : ℕ) (taken given : Queue)
      → RunsHold (put_at words n QUEUE_LOCK 0) (put traces s (Gave n (val.Queue taken) (val.Queue given) ∷ traces s))
  give_queue_runs n taken given =
      runs_step (put_at words n QUEUE_LOCK 0) (Gave n (val.Queue taken) (val.Queue given))
      (λ j c t ne locked e. as_was j c t locked e) (λ c t locked e. as_was s c t locked e)
    where
      was : (j c : ℕ) → holder (put_at words n QUEUE_LOCK 0 c QUEUE_LOCK) ≡ Some j
          → holder (words c QUEUE_LOCK) ≡ Some j
      was j c e = elim (cases_eq c n) [
        | inl q ↦ absurd (grind (
          arith,
          ap holder (sym (word_here words n QUEUE_LOCK 0))
              ∙ subst (λ (k : ℕ). holder (put_at words n QUEUE_LOCK 0 k QUEUE_LOCK) ≡ Some j) q e,
        ))
        | inr apart ↦ ap holder (sym (word_apart words n QUEUE_LOCK 0 c QUEUE_LOCK apart)) ∙ e
      ]

      as_was : (j c t : ℕ) → holder (put_at words n QUEUE_LOCK 0 c QUEUE_LOCK) ≡ Some j
          → may_run j (traces j) c t ≡ true
          → MayRunThere (put_at words n QUEUE_LOCK 0)
          (put traces s (Gave n (val.Queue taken) (val.Queue given) ∷ traces s)) j c t
      as_was j c t locked e =
          lock_beside n 0 (Gave n (val.Queue taken) (val.Queue given)) j c t (holds j c t (was j c locked) e)
          (λ is. unless (gives_up s n given) (current_task s (traces s)) t is)

  -- a store of the queue word, the processor word or the state of n, which is of no task that is known to run
  rq_lock : (n x j c : ℕ) → holder (put_at words n RQ x c QUEUE_LOCK) ≡ Some j → holder (words c QUEUE_LOCK) ≡ Some j
  rq_lock n x j c locked = ap holder (sym (word_beside words n RQ x c QUEUE_LOCK (λ q. omega (arith, q)))) ∙ locked

  state_lock : (n x j c : ℕ) → holder (put_at words n STATE x c QUEUE_LOCK) ≡ Some j
      → holder (words c QUEUE_LOCK) ≡ Some j
  state_lock n x j c locked = ap holder (sym (word_beside words n STATE x c QUEUE_LOCK (λ q. omega (arith, q))))
      ∙ locked

  apart_rq : (n x : ℕ) (r : Rec) (j c t : ℕ) → MayRunThere words traces j c t → t ≢ n
      → (current_task s (r ∷ traces s) ≡ Some t → current_task s (traces s) ≡ Some t)
      → MayRunThere (put_at words n RQ x) (put traces s (r ∷ traces s)) j c t
  apart_rq n x r j c t old apart current =
      carried (put_at words n RQ x) r j c t old (word_apart words n RQ x t RQ apart)
      (word_beside words n RQ x t CPU (λ q. omega (arith, q)))
      (as_before (put_at words n RQ x) t (word_beside words n RQ x t STATE (λ q. omega (arith, q))) old.runnable)
      (λ is. old.own s (current is))

  apart_state : (n x : ℕ) (r : Rec) (j c t : ℕ) → MayRunThere words traces j c t → (t ≡ n → (x ≡ 0) ⊎ (x ≡ 0x800))
      → (current_task s (r ∷ traces s) ≡ Some t → current_task s (traces s) ≡ Some t)
      → MayRunThere (put_at words n STATE x) (put traces s (r ∷ traces s)) j c t
  apart_state n x r j c t old runs current =
      carried (put_at words n STATE x) r j c t old (word_beside words n STATE x t RQ (λ q. omega (arith, q)))
      (word_beside words n STATE x t CPU (λ q. omega (arith, q)))
      (state (cases_eq t n)) (λ is. old.own s (current is))
    where
      state : (t ≡ n) ⊎ (t ≢ n) → IsRunnable (record { 0 = put_at words n STATE x t STATE })
      state (inl q) = subst (λ (z : ℕ). IsRunnable (record { 0 = z }))
          (sym (ap (λ (k : ℕ). put_at words n STATE x k STATE) q ∙ word_here words n STATE x)) (runs q)
      state (inr ne) = as_before (put_at words n STATE x) t (word_apart words n STATE x t STATE ne) old.runnable

  -- .. to another value than queued
  leaves : (d n x : ℕ) (r : Rec) → holder (words d QUEUE_LOCK) ≡ Some s → words n CPU ≡ d
      → ((c t : ℕ) → may_run s (r ∷ traces s) c t ≡ true → (t ≢ n) × (may_run s (traces s) c t ≡ true))
      → ((t : ℕ) → current_task s (r ∷ traces s) ≡ Some t → current_task s (traces s) ≡ Some t)
      → RunsHold (put_at words n RQ x) (put traces s (r ∷ traces s))
  leaves d n x r queue here off current =
      runs_step (put_at words n RQ x) r
      (λ j c t ne locked e. let old = holds j c t (rq_lock n x j c locked) e in
      apart_rq n x r j c t old (λ q. ne (theirs j c t q (rq_lock n x j c locked) old.here)) (current t))
      (λ c t locked e. let so = off c t e in apart_rq n x r s c t (holds s c t (rq_lock n x s c locked) so.1) so.0
      (current t))
    where
      theirs : (j c t : ℕ) → t ≡ n → holder (words c QUEUE_LOCK) ≡ Some j → words t CPU ≡ c → j ≡ s
      theirs j c t q locked there =
          let same : c ≡ d = sym there ∙ ap (λ (k : ℕ). words k CPU) q ∙ here in
          one_seat (holder (words d QUEUE_LOCK)) s j queue
          (subst (λ (k : ℕ). holder (words k QUEUE_LOCK) ≡ Some j) same locked)

  module _ (shape : Shape) (homes : Homes) where
    pub dequeue_task_runs : (d n m x : ℕ) → MayDequeue (core_of shape words homes traces) s d n
        → RunsHold (put_at words n RQ x) (put traces s (Dequeued n d m ∷ traces s))
    dequeue_task_runs d n m x may = leaves d n x (Dequeued n d m) may.locked may.here
        (off_column (may_run s (traces s)) n) (λ t e. e)

    pub move_task_runs : (d n m x : ℕ) (queue : Queue) → MayMove (core_of shape words homes traces) s d n queue
        → RunsHold (put_at words n RQ x) (put traces s (Moved n d m ∷ traces s))
    move_task_runs d n m x queue may = leaves d n x (Moved n d m) may.locked may.here
        (off_column (may_run s (traces s)) n) (λ t e. e)

    -- a task is picked under the lock of its queue, so no other seat knows it to run there
    pub set_busy_runs : (d n m x : ℕ) (queue : Queue) → MaySetBusy (core_of shape words homes traces) s d n queue
        → RunsHold (put_at words n BUSY x) (put traces s (SetBusy n d m ∷ traces s))
    set_busy_runs d n m x queue may =
        runs_step (put_at words n BUSY x) (SetBusy n d m) (λ j c t ne locked e. as_was j c t locked e)
        (λ c t locked e. as_was s c t locked e)
      where
        lock : (j c : ℕ) → holder (put_at words n BUSY x c QUEUE_LOCK) ≡ Some j → holder (words c QUEUE_LOCK) ≡ Some j
        lock j c locked = ap holder (sym (word_beside words n BUSY x c QUEUE_LOCK (λ q. omega (arith, q)))) ∙ locked

        mine : (j c t : ℕ) → holder (words c QUEUE_LOCK) ≡ Some j → words t CPU ≡ c → n ≡ t → s ≡ j
        mine j c t locked there q =
            let same : c ≡ d = sym there ∙ ap (λ (k : ℕ). words k CPU) (sym q) ∙ may.here in
            sym (one_seat (holder (words d QUEUE_LOCK)) s j may.locked
            (subst (λ (k : ℕ). holder (words k QUEUE_LOCK) ≡ Some j) same locked))

        as_was : (j c t : ℕ) → holder (put_at words n BUSY x c QUEUE_LOCK) ≡ Some j → may_run j (traces j) c t ≡ true
            → MayRunThere (put_at words n BUSY x) (put traces s (SetBusy n d m ∷ traces s)) j c t
        as_was j c t locked e = let old = holds j c t (lock j c locked) e in
            carried (put_at words n BUSY x) (SetBusy n d m) j c t old
            (word_beside words n BUSY x t RQ (λ q. omega (arith, q)))
            (word_beside words n BUSY x t CPU (λ q. omega (arith, q)))
            (as_before (put_at words n BUSY x) t (word_beside words n BUSY x t STATE
            (λ q. omega (arith, q))) old.runnable)
            (λ is. mine j c t (lock j c locked) old.here (same_task n t is))

    -- a seat stores the state of its own current task, which no other seat knows to run
    pub set_state_runs : (n : ℕ) (state : State) → MaySetState (core_of shape words homes traces) s n state
        → RunsHold (put_at words n STATE state.0) (put traces s (StateSet n state ∷ traces s))
    set_state_runs n state may =
        runs_step (put_at words n STATE state.0) (StateSet n state)
        (λ j c t ne locked e. let old = holds j c t (state_lock n state.0 j c locked) e in
        apart_state n state.0 (StateSet n state) j c t old
        (λ q. absurd (ne (sym (old.own s (subst (λ (k : ℕ). current_task s (traces s) ≡ Some k)
        (sym q) may.current))))) (λ is. is))
        (λ c t locked e. mine (cases_Bool (state.0 == 0)) c t (state_lock n state.0 s c locked) e)
      where
        mine : (state.0 == 0 ≡ true) ⊎ (state.0 == 0 ≡ false) → (c t : ℕ) → holder (words c QUEUE_LOCK) ≡ Some s
            → put_column_if (not (state.0 == 0)) n false (may_run s (traces s)) c t ≡ true
            → MayRunThere (put_at words n STATE state.0) (put traces s (StateSet n state ∷ traces s)) s c t
        mine (inl zero_is) c t locked e =
            apart_state n state.0 (StateSet n state) s c t
            (holds s c t locked (subst (λ (b : Bool). put_column_if (not b) n false
            (may_run s (traces s)) c t ≡ true) zero_is e))
            (λ q. inl (grind (arith, nat_tests, zero_is))) (λ is. is)
        mine (inr other) c t locked e =
            let off = off_column (may_run s (traces s)) n c t
            (subst (λ (b : Bool). put_column_if (not b) n false (may_run s (traces s)) c t ≡ true) other e) in
            apart_state n state.0 (StateSet n state) s c t (holds s c t locked off.1) (λ q. absurd (off.0 q))
            (λ is. is)

    module _ (core : Holds (core_of shape words homes traces)) where
      -- no seat has a task as current that isn't busy
      nobody : (t : ℕ) → is_set (words t BUSY) ≡ false → (j : ℕ) → current_task j (traces j) ≡ Some t → ⊥
      nobody t clear j is = absurd (grind (arith, clear, core.busy.runner.current_busy j t is))

      pub take_queue_runs : (n : ℕ) (v : Queue) → homes.queue n ≡ Some v
          → MayTakeQueue (core_of shape words homes traces) s n
          → RunsHold (put_at words n QUEUE_LOCK (suc s)) (put traces s (Took n (val.Queue v) ∷ traces s))
      take_queue_runs n v home may =
          runs_step (put_at words n QUEUE_LOCK (suc s)) (Took n (val.Queue v))
          (λ j c t ne locked e. lock_beside n (suc s) (Took n (val.Queue v)) j c t
          (holds j c t (was j c (λ q. ne (theirs j c q locked)) locked) e) (λ is. is)) mine
        where
          theirs : (j c : ℕ) → c ≡ n → holder (put_at words n QUEUE_LOCK (suc s) c QUEUE_LOCK) ≡ Some j → j ≡ s
          theirs j c q locked = one_seat (Some s) s j refl (ap holder (sym (word_here words n QUEUE_LOCK (suc s)))
              ∙ subst (λ (k : ℕ). holder (put_at words n QUEUE_LOCK (suc s) k QUEUE_LOCK) ≡ Some j) q locked)

          was : (j c : ℕ) → c ≢ n → holder (put_at words n QUEUE_LOCK (suc s) c QUEUE_LOCK) ≡ Some j
              → holder (words c QUEUE_LOCK) ≡ Some j
          was j c apart locked = ap holder (sym (word_apart words n QUEUE_LOCK (suc s) c QUEUE_LOCK apart)) ∙ locked

          -- one that waits at home is queued there, and nobody's current task, which would be the queue's next
          unrun : (t : ℕ) → words t CPU ≡ n → is_some_of v.cur t ≡ false → (k : ℕ) → current_task k (traces k) ≢ Some t
          unrun t here next k is =
              let same : k ≡ n = sym (core.busy.runner.current_here k t is) ∙ here in
              next_is v.cur t (core.busy.named.cur_home n t v
              (subst (λ (z : ℕ). current_task z (traces z) ≡ Some t) same is) home) next

          free : (t o : ℕ) → words t CPU ≡ n → holder (words (words t CPU) QUEUE_LOCK) ≡ Some o → ⊥
          free t o here locked = absurd (grind (
            arith,
            sym may.free
                ∙ subst (λ (z : ℕ). holder (words z QUEUE_LOCK) ≡ Some o) here locked,
          ))

          waits : (t : ℕ) → nat_lt 0 (times_in v.waiting t) ≡ true → MayRunThere words traces s n t
          waits t e =
              let at = waits_there (times_in v.waiting t) (words t RQ % 4) (words t CPU) n (is_some_of v.cur t)
              (core.queues.at_home n v home t) e in
              record {
                queued = at.0;
                here = at.1;
                runnable = elim (core.places.waiting t at.0 (unrun t at.1 at.2)) [
                  | inl h ↦ h
                  | inr w ↦ absurd (free t w.1.0 at.1 w.1.1)
                ];
                own = λ k is. absurd (unrun t at.1 at.2 k is);
              }

          mine : (c t : ℕ) → holder (put_at words n QUEUE_LOCK (suc s) c QUEUE_LOCK) ≡ Some s
              → put (may_run s (traces s)) n (λ u. nat_lt 0 (times_in v.waiting u)) c t ≡ true
              → MayRunThere (put_at words n QUEUE_LOCK (suc s)) (put traces s (Took n (val.Queue v) ∷ traces s)) s c t
          mine c t locked e = elim (cases_eq c n) [
            | inl q ↦ subst (λ (k : ℕ). MayRunThere (put_at words n QUEUE_LOCK (suc s))
                (put traces s (Took n (val.Queue v) ∷ traces s)) s k t) (sym q)
                (lock_beside n (suc s) (Took n (val.Queue v)) s n t
                (waits t (ap (λ (f : ℕ → Bool). f t)
                (sym (put_there (may_run s (traces s)) n (λ u. nat_lt 0 (times_in v.waiting u)) c q)) ∙ e))
                (λ is. is))
            | inr apart ↦ lock_beside n (suc s) (Took n (val.Queue v)) s c t
                (holds s c t (was s c apart locked)
                (ap (λ (f : ℕ → Bool). f t) (sym (put_other (may_run s (traces s)) n
                (λ u. nat_lt 0 (times_in v.waiting u)) c apart)) ∙ e)) (λ is. is)
          ]

      -- a task that is new or moves may run, and isn't busy
      pub queue_task_runs : (d n x : ℕ) → x % 4 ≡ 1 → MayQueue (core_of shape words homes traces) s d n
          → RunsHold (put_at words n RQ x) (put traces s (Queued n d (words n RQ % 4) (words n RQ / 4) ∷ traces s))
      queue_task_runs d n x on_is may =
          runs_step (put_at words n RQ x) (Queued n d (words n RQ % 4) (words n RQ / 4))
          (λ j c t ne locked e. as_was j c t (holds j c t (rq_lock n x j c locked) e))
          (λ c t locked e. elim (of_both (may_run s (traces s)) d n
          ((words n RQ / 4 == 0) || (words n RQ % 4 == 2)) c t e) [
            | inl now ↦ subst (λ (k : ℕ). MayRunThere (put_at words n RQ x)
                (put traces s (Queued n d (words n RQ % 4) (words n RQ / 4) ∷ traces s)) s k t) (sym now.0)
                (subst (λ (u : ℕ). MayRunThere (put_at words n RQ x)
                (put traces s (Queued n d (words n RQ % 4) (words n RQ / 4) ∷ traces s)) s d u) (sym now.1)
                (put_there_now (either_true (words n RQ / 4 == 0) (words n RQ % 4 == 2) now.2)))
            | inr was ↦ as_was s c t (holds s c t (rq_lock n x s c locked) was)
          ])
        where
          as_was : (j c t : ℕ) → MayRunThere words traces j c t
              → MayRunThere (put_at words n RQ x)
              (put traces s (Queued n d (words n RQ % 4) (words n RQ / 4) ∷ traces s)) j c t
          as_was j c t old =
              apart_rq n x (Queued n d (words n RQ % 4) (words n RQ / 4)) j c t old
              (λ q. may.off (subst (λ (k : ℕ). words k RQ % 4 ≡ 1) q old.queued)) (λ is. is)

          now_there : IsRunnable (record { 0 = words n STATE }) → is_set (words n BUSY) ≡ false
              → MayRunThere (put_at words n RQ x)
              (put traces s (Queued n d (words n RQ % 4) (words n RQ / 4) ∷ traces s)) s d n
          now_there runnable clear = record {
            queued = ap (λ (z : ℕ). z % 4) (word_here words n RQ x) ∙ on_is;
            here = word_beside words n RQ x n CPU (λ q. omega (arith, q)) ∙ may.here;
            runnable = as_before (put_at words n RQ x) n
                (word_beside words n RQ x n STATE (λ q. omega (arith, q))) runnable;
            own = runner_after (Queued n d (words n RQ % 4) (words n RQ / 4)) s n
                (λ k is. absurd (nobody n clear k is)) (λ is. refl);
          }

          put_there_now : (words n RQ / 4 == 0 ≡ true) ⊎ (words n RQ % 4 == 2 ≡ true)
              → MayRunThere (put_at words n RQ x)
              (put traces s (Queued n d (words n RQ % 4) (words n RQ / 4) ∷ traces s)) s d n
          put_there_now (inl h) =
              let new : words n RQ / 4 ≡ 0 = grind (arith, nat_tests, h) in
              now_there (core.places.new_states.runnable n new) (core.places.new.idle n new)
          put_there_now (inr h) =
              let moves : words n RQ % 4 ≡ 2 = grind (arith, nat_tests, h) in
              now_there (core.places.moving.runnable n moves) (core.places.moving.idle n moves)

      pub store_cpu_runs : (n d : ℕ) → MayStoreCpu (core_of shape words homes traces) s n d
          → RunsHold (put_at words n CPU d) (put traces s (StoredCpu n d ∷ traces s))
      store_cpu_runs n d may =
          runs_step (put_at words n CPU d) (StoredCpu n d) (λ j c t ne locked e. as_was j c t locked e)
          (λ c t locked e. as_was s c t locked e)
        where
          unqueued : words n RQ % 4 ≢ 1
          unqueued on = elim may.placeable [
            | inl new ↦ absurd (grind (arith, on, core.places.new.off n new))
            | inr rest ↦ elim rest [
              | inl off ↦ absurd (grind (arith, on, off.0))
              | inr moves ↦ absurd (grind (arith, on, moves))
            ]
          ]

          as_was : (j c t : ℕ) → holder (put_at words n CPU d c QUEUE_LOCK) ≡ Some j → may_run j (traces j) c t ≡ true
              → MayRunThere (put_at words n CPU d) (put traces s (StoredCpu n d ∷ traces s)) j c t
          as_was j c t locked e =
              let old = holds j c t (ap holder (sym (word_beside words n CPU d c QUEUE_LOCK (λ q. omega (arith, q))))
              ∙ locked) e in
              carried (put_at words n CPU d) (StoredCpu n d) j c t old
              (word_beside words n CPU d t RQ (λ q. omega (arith, q)))
              (word_apart words n CPU d t CPU (λ q. unqueued (subst (λ (k : ℕ). words k RQ % 4 ≡ 1) q old.queued)))
              (as_before (put_at words n CPU d) t
              (word_beside words n CPU d t STATE (λ q. omega (arith, q))) old.runnable) (λ is. old.own s is)

      -- a task that is claimed is off its queue
      pub claim_runs : (n m : ℕ) → MayClaim (core_of shape words homes traces) s n
          → RunsHold (put_at words n STATE 0x200) (put traces s (Claimed n m ∷ traces s))
      claim_runs n m may =
          runs_step (put_at words n STATE 0x200) (Claimed n m)
          (λ j c t ne locked e. as_was j c t (holds j c t (state_lock n 0x200 j c locked) e))
          (λ c t locked e. as_was s c t (holds s c t (state_lock n 0x200 s c locked) e))
        where
          as_was : (j c t : ℕ) → MayRunThere words traces j c t
              → MayRunThere (put_at words n STATE 0x200) (put traces s (Claimed n m ∷ traces s)) j c t
          as_was j c t old =
              apart_state n 0x200 (Claimed n m) j c t old
              (λ q. absurd (grind (
                arith,
                core.positions.matched.off s n may.locked may.saw_off,
                subst
                    (λ (k : ℕ). words k RQ % 4 ≡ 1) q old.queued,
              ))) (λ is. is)

      -- one that the seat has put on a queue, and then stored as running, is there and runs
      pub make_runnable_runs : (n : ℕ) → PutHolds words traces
          → RunsHold (put_at words n STATE 0) (put traces s (MadeRunnable n ∷ traces s))
      make_runnable_runs n puts =
          runs_step (put_at words n STATE 0) (MadeRunnable n)
          (λ j c t ne locked e. as_was j c t (holds j c t (state_lock n 0 j c locked) e))
          (λ c t locked e. mine c t (cases_Bool ((t == n) && has_put (traces s) c t)) (state_lock n 0 s c locked) e)
        where
          as_was : (j c t : ℕ) → MayRunThere words traces j c t
              → MayRunThere (put_at words n STATE 0) (put traces s (MadeRunnable n ∷ traces s)) j c t
          as_was j c t old = apart_state n 0 (MadeRunnable n) j c t old (λ q. inl refl) (λ is. is)

          runner : (c t : ℕ) → holder (words c QUEUE_LOCK) ≡ Some s → has_put (traces s) c t ≡ true → (k : ℕ)
              → current_task k (traces k) ≡ Some t → k ≡ s
          runner c t locked was k is = let at = puts s c t locked was in
              elim (core.positions.idle.put s c t locked (added_where_put (traces s) c t was) at.0 at.1) [
                | inl clear ↦ absurd (nobody t clear k is)
                | inr own ↦ sym (core.busy.runner.current_here k t is) ∙ core.busy.runner.current_here s t own
              ]

          now : (c : ℕ) → holder (words c QUEUE_LOCK) ≡ Some s → has_put (traces s) c n ≡ true
              → MayRunThere (put_at words n STATE 0) (put traces s (MadeRunnable n ∷ traces s)) s c n
          now c locked was = let at = puts s c n locked was in record {
            queued = ap (λ (z : ℕ). z % 4) (word_beside words n STATE 0 n RQ (λ q. omega (arith, q))) ∙ at.0;
            here = word_beside words n STATE 0 n CPU (λ q. omega (arith, q)) ∙ at.1;
            runnable = inl (word_here words n STATE 0);
            own = runner_after (MadeRunnable n) s n (runner c n locked was) (λ is. refl);
          }

          mine : (c t : ℕ) → ((t == n) && has_put (traces s) c t ≡ true) ⊎ ((t == n) && has_put (traces s) c t ≡ false)
              → holder (words c QUEUE_LOCK) ≡ Some s
              → (if (t == n) && has_put (traces s) c t then true else may_run s (traces s) c t) ≡ true
              → MayRunThere (put_at words n STATE 0) (put traces s (MadeRunnable n ∷ traces s)) s c t
          mine c t (inl h) locked e =
              let both = both_true (t == n) (has_put (traces s) c t) h in
              let same : t ≡ n = grind (arith, nat_tests, both.0) in
              subst (λ (u : ℕ). MayRunThere (put_at words n STATE 0) (put traces s (MadeRunnable n ∷ traces s)) s c u)
              (sym same)
              (now c locked (subst (λ (u : ℕ). has_put (traces s) c u ≡ true) same both.1))
          mine c t (inr h) locked e = as_was s c t
              (holds s c t locked (subst (λ (b : Bool). (if b then true else may_run s (traces s) c t) ≡ true) h e))

      -- a seat that reads its own current task as running, under its queue's lock, knows that it runs
      pub load_state_runs : (n : ℕ) (mask : Option State) → CurrentHolds words traces
          → RunsHold words (put traces s (LoadedState n mask (record { 0 = words n STATE }) ∷ traces s))
      load_state_runs n mask current =
          runs_step words (LoadedState n mask (record { 0 = words n STATE }))
          (λ j c t ne locked e. as_was j c t (holds j c t locked e))
          (λ c t locked e. mine c t locked (of_choice knows (may_run s (traces s)) s n c t e))
        where
          knows : Bool
          knows = is_some_of (current_task s (traces s)) n &&
              (stays_queued (traces s) && (is_some (queue_held (traces s) s) && is_runnable (record { 0 = words n STATE })))

          as_was : (j c t : ℕ) → MayRunThere words traces j c t
              → MayRunThere words (put traces s (LoadedState n mask (record { 0 = words n STATE }) ∷ traces s)) j c t
          as_was j c t old = carried words (LoadedState n mask
              (record { 0 = words n STATE })) j c t old refl refl old.runnable (λ is. old.own s is)

          by_tests : (a b c d : Bool) → (a && (b && (c && d))) ≡ true → (a ≡ true) × (b ≡ true) × (d ≡ true)
          by_tests a b c d e = (grind (arith, e), grind (arith, e), grind (arith, e))

          runs : (x : ℕ) → ((x == 0) || (x == 0x800)) ≡ true → (x ≡ 0) ⊎ (x ≡ 0x800)
          runs x e = elim (cases_eq x 0) [
            | inl is ↦ inl is
            | inr ne ↦ inr (grind (arith, nat_tests, e, ne))
          ]

          now : knows ≡ true → MayRunThere words traces s s n
          now e =
              let tests = by_tests (is_some_of (current_task s (traces s)) n) (stays_queued (traces s))
              (is_some (queue_held (traces s) s)) (is_runnable (record { 0 = words n STATE })) e in
              let own = some_is (current_task s (traces s)) n tests.0 in
              record {
                queued = current s n own tests.1;
                here = core.busy.runner.current_here s n own;
                runnable = runs (words n STATE) tests.2;
                own = λ k is. sym (core.busy.runner.current_here k n is) ∙ core.busy.runner.current_here s n own;
              }

          mine : (c t : ℕ) → holder (words c QUEUE_LOCK) ≡ Some s
              → ((knows ≡ true) × (c ≡ s) × (t ≡ n)) ⊎ (may_run s (traces s) c t ≡ true)
              → MayRunThere words (put traces s (LoadedState n mask (record { 0 = words n STATE }) ∷ traces s)) s c t
          mine c t locked (inl known) =
              as_was s c t (subst (λ (k : ℕ). MayRunThere words traces s k t) (sym known.1)
              (subst (λ (u : ℕ). MayRunThere words traces s s u) (sym known.2) (now known.0)))
          mine c t locked (inr was) = as_was s c t (holds s c t locked was)
