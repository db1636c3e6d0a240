-- A task that a seat has put on a queue under its lock, and not taken off, is queued there: kept by each kind of step.
use Rattle.word_steps.proofs.Conditions.{queue_locked}
use Rattle.std.proofs.Common.{◌≡◌, ◌≢◌, ℕ, suc, inl, inr, refl, sym, ap, subst, ◌∙◌, List, [], ◌∷◌, arith}
use Rattle.std.specs.Prelude.{◌%◌, Bool, true, false, Some, ◌+◌, ◌<◌, ◌⊎◌}
use Rattle.std.proofs.lemmas.Bool.{cases_eq}
use Rattle.std.proofs.lemmas.Bool.Decides.{nat_tests}
use Rattle.core_data.specs.Columns.{put, put_at}
use Rattle.core_data.specs.Queue.{Queue}
use Rattle.core_invariant.specs.Invariant.{Holds}
use Rattle.core_kinds.specs.Running.{MayQueue, MayDequeue, MayMove}
use Rattle.core_kinds.specs.Waking.{MayStoreCpu, MayMakeRunnable}
use Rattle.handoff_data.specs.declared.shape.Shape.{Shape}
use Rattle.word_steps.proofs.MovingKept.{one_seat}
use Rattle.word_steps.proofs.Puts.{word_here, word_apart, word_beside, fold_here, fold_else}
use Rattle.word_steps.specs.TraceFacts.{PutHolds}
use Rattle.word_steps.specs.Decode.{Homes, core_of}
use Rattle.word_steps.specs.Folds.{has_put, put_column, put_row, queue_held, has_added, current_task}
use Rattle.word_steps.specs.Records.{Rec, Took, Gave, Queued, Dequeued, Moved, StoredCpu}
use Rattle.word_steps.specs.Words.{QUEUE_LOCK, RQ, CPU, holder, BUSY, is_set}
use Rattle.word_steps.specs.declared.val.Val.TheVariants as val

pub put_start : (words : ℕ → ℕ → ℕ) → PutHolds words (λ s. [])
put_start words s c t locked e = absurd (grind (arith, e))

off_column : (h : ℕ → ℕ → Bool) (n c t : ℕ) → put_column h n false c t ≡ true → (t ≢ n) × (h c t ≡ true)
off_column h n c t e = (λ q. absurd (grind (arith, nat_tests, q, e)), grind (arith, nat_tests, e))

off_row : (h : ℕ → ℕ → Bool) (n c t : ℕ) → put_row h n false c t ≡ true → (c ≢ n) × (h c t ≡ true)
off_row h n c t e = (λ q. absurd (grind (arith, nat_tests, q, e)), grind (arith, nat_tests, e))

module _ (words : ℕ → ℕ → ℕ) (traces : ℕ → List Rec) (s : ℕ) (holds : PutHolds words traces) where
  pub put_step : (words' : ℕ → ℕ → ℕ) (r : Rec)
      → ((j c t : ℕ) → j ≢ s → holder (words' c QUEUE_LOCK) ≡ Some j → has_put (traces j) c t ≡ true → (words' t RQ % 4 ≡ 1) × (words' t CPU ≡ c))
      → ((c t : ℕ) → holder (words' c QUEUE_LOCK) ≡ Some s → has_put (r ∷ traces s) c t ≡ true → (words' t RQ % 4 ≡ 1) × (words' t CPU ≡ c))
      → PutHolds words' (put traces s (r ∷ traces s))
  put_step words' r others mine j c t locked e = elim (cases_eq j s) [
    | inl q ↦ mine c t (locked ∙ ap Some q) (ap (λ (f : ℕ → ℕ → Bool). f c t) (sym (fold_here has_put traces s r j q)) ∙ e)
    | inr ne ↦ others j c t ne locked (ap (λ (f : ℕ → ℕ → Bool). f c t) (sym (fold_else has_put traces s r j ne)) ∙ e)
  ]

  -- a step that changes no lock of a queue, no queue word and no processor word, and puts no task on a queue
  pub put_quiet : (words' : ℕ → ℕ → ℕ) (r : Rec) → ((c : ℕ) → words' c QUEUE_LOCK ≡ words c QUEUE_LOCK)
      → ((t : ℕ) → words' t CPU ≡ words t CPU) → ((t : ℕ) → words' t RQ ≡ words t RQ)
      → has_put (r ∷ traces s) ≡ has_put (traces s) → PutHolds words' (put traces s (r ∷ traces s))
  put_quiet words' r queue cpu rq same =
      put_step words' r (λ j c t ne locked e. as_was j c t locked e) (λ c t locked e. as_was s c t locked (ap (λ (f : ℕ → ℕ → Bool). f c t) (sym same) ∙ e))
    where
      as_was : (j c t : ℕ) → holder (words' c QUEUE_LOCK) ≡ Some j → has_put (traces j) c t ≡ true → (words' t RQ % 4 ≡ 1) × (words' t CPU ≡ c)
      as_was j c t locked e = let old = holds j c t (ap holder (sym (queue c)) ∙ locked) e in (ap (λ (z : ℕ). z % 4) (rq t) ∙ old.0, cpu t ∙ old.1)

  pub put_beside : (n c x : ℕ) (r : Rec) → QUEUE_LOCK ≢ c → CPU ≢ c → RQ ≢ c → has_put (r ∷ traces s) ≡ has_put (traces s)
      → PutHolds (put_at words n c x) (put traces s (r ∷ traces s))
  put_beside n c x r queue cpu rq same =
      put_quiet (put_at words n c x) r (λ d. word_beside words n c x d QUEUE_LOCK queue) (λ t. word_beside words n c x t CPU cpu) (λ t. word_beside words n c x t RQ rq) same

  pub put_still : (r : Rec) → has_put (r ∷ traces s) ≡ has_put (traces s) → PutHolds words (put traces s (r ∷ traces s))
  put_still r same = put_quiet words r (λ c. refl) (λ t. refl) (λ t. refl) same

  -- the lock of a queue is taken or given
  beside_lock : (n x c t : ℕ) → (words t RQ % 4 ≡ 1) × (words t CPU ≡ c) → (put_at words n QUEUE_LOCK x t RQ % 4 ≡ 1) × (put_at words n QUEUE_LOCK x t CPU ≡ c)
  beside_lock n x c t old =
      (ap (λ (z : ℕ). z % 4) (word_beside words n QUEUE_LOCK x t RQ (λ q. omega (arith, q))) ∙ old.0, word_beside words n QUEUE_LOCK x t CPU (λ q. omega (arith, q)) ∙ old.1)

  pub take_queue_put : (n : ℕ) (v : Queue) → PutHolds (put_at words n QUEUE_LOCK (suc s)) (put traces s (Took n (val.Queue v) ∷ traces s))
  take_queue_put n v =
      put_step (put_at words n QUEUE_LOCK (suc s)) (Took n (val.Queue v))
      (λ j c t ne locked e. beside_lock n (suc s) c t (holds j c t (was j c (λ q. ne (theirs j c q locked)) locked) e))
      (λ c t locked e. let off = off_row (has_put (traces s)) n c t e in beside_lock n (suc s) c t (holds s c t (was s c off.0 locked) off.1))
    where
      theirs : (j c : ℕ) → c ≡ n → holder (put_at words n QUEUE_LOCK (suc s) c QUEUE_LOCK) ≡ Some j → j ≡ s
      theirs j c q locked = one_seat (Some s) s j refl (ap holder (sym (word_here words n QUEUE_LOCK (suc s)))
          ∙ subst (λ (k : ℕ). holder (put_at words n QUEUE_LOCK (suc s) k QUEUE_LOCK) ≡ Some j) q locked)

      was : (j c : ℕ) → c ≢ n → holder (put_at words n QUEUE_LOCK (suc s) c QUEUE_LOCK) ≡ Some j → holder (words c QUEUE_LOCK) ≡ Some j
      was j c apart locked = ap holder (sym (word_apart words n QUEUE_LOCK (suc s) c QUEUE_LOCK apart)) ∙ locked

  pub give_queue_put : (n : ℕ) (taken given : Queue) → PutHolds (put_at words n QUEUE_LOCK 0) (put traces s (Gave n (val.Queue taken) (val.Queue given) ∷ traces s))
  give_queue_put n taken given =
      put_step (put_at words n QUEUE_LOCK 0) (Gave n (val.Queue taken) (val.Queue given))
      (λ j c t ne locked e. beside_lock n 0 c t (holds j c t (was j c locked) e)) (λ c t locked e. beside_lock n 0 c t (holds s c t (was s c locked) e))
    where
      was : (j c : ℕ) → holder (put_at words n QUEUE_LOCK 0 c QUEUE_LOCK) ≡ Some j → holder (words c QUEUE_LOCK) ≡ Some j
      was j c e = elim (cases_eq c n) [
        | inl q ↦ absurd (grind (arith, ap holder (sym (word_here words n QUEUE_LOCK 0)) ∙ subst (λ (k : ℕ). holder (put_at words n QUEUE_LOCK 0 k QUEUE_LOCK) ≡ Some j) q e))
        | inr apart ↦ ap holder (sym (word_apart words n QUEUE_LOCK 0 c QUEUE_LOCK apart)) ∙ e
      ]

  -- a store of a queue word
  rq_lock : (n x j c : ℕ) → holder (put_at words n RQ x c QUEUE_LOCK) ≡ Some j → holder (words c QUEUE_LOCK) ≡ Some j
  rq_lock n x j c locked = ap holder (sym (word_beside words n RQ x c QUEUE_LOCK (λ q. omega (arith, q)))) ∙ locked

  rq_cpu : (n x t : ℕ) → put_at words n RQ x t CPU ≡ words t CPU
  rq_cpu n x t = word_beside words n RQ x t CPU (λ q. omega (arith, q))

  module _ (shape : Shape) (homes : Homes) (core : Holds (core_of shape words homes traces)) where
    pub queue_task_put : (d n on m x : ℕ) → x % 4 ≡ 1 → MayQueue (core_of shape words homes traces) s d n
        → PutHolds (put_at words n RQ x) (put traces s (Queued n d on m ∷ traces s))
    queue_task_put d n on m x on_is may =
        put_step (put_at words n RQ x) (Queued n d on m)
        (λ j c t ne locked e. stays c t (holds j c t (rq_lock n x j c locked) e))
        (λ c t locked e. elim (cases_eq t n) [
          | inl q ↦ elim (cases_eq c d) [
            | inl p ↦ (now t q, rq_cpu n x t ∙ ap (λ (k : ℕ). words k CPU) q ∙ may.here ∙ sym p)
            | inr apart ↦ stays c t (holds s c t (rq_lock n x s c locked) (grind (arith, nat_tests, apart, e)))
          ]
          | inr ne ↦ stays c t (holds s c t (rq_lock n x s c locked) (grind (arith, nat_tests, ne, e)))
        ])
      where
        now : (t : ℕ) → t ≡ n → put_at words n RQ x t RQ % 4 ≡ 1
        now t q = ap (λ (k : ℕ). put_at words n RQ x k RQ % 4) q ∙ ap (λ (z : ℕ). z % 4) (word_here words n RQ x) ∙ on_is

        stays : (c t : ℕ) → (words t RQ % 4 ≡ 1) × (words t CPU ≡ c) → (put_at words n RQ x t RQ % 4 ≡ 1) × (put_at words n RQ x t CPU ≡ c)
        stays c t old = (
          elim (cases_eq t n) [
            | inl q ↦ now t q
            | inr ne ↦ ap (λ (z : ℕ). z % 4) (word_apart words n RQ x t RQ ne) ∙ old.0
          ],
          rq_cpu n x t ∙ old.1,
        )

    -- .. to another value, which only the holder of its queue's lock may store
    off_queue : (d n x : ℕ) (r : Rec) → holder (words d QUEUE_LOCK) ≡ Some s → words n CPU ≡ d
        → ((c t : ℕ) → has_put (r ∷ traces s) c t ≡ true → (t ≢ n) × (has_put (traces s) c t ≡ true)) → PutHolds (put_at words n RQ x) (put traces s (r ∷ traces s))
    off_queue d n x r queue here off =
        put_step (put_at words n RQ x) r
        (λ j c t ne locked e. let old = holds j c t (rq_lock n x j c locked) e in apart c t (λ q. ne (theirs j c t q (rq_lock n x j c locked) old.1)) old)
        (λ c t locked e. let so = off c t e in apart c t so.0 (holds s c t (rq_lock n x s c locked) so.1))
      where
        apart : (c t : ℕ) → t ≢ n → (words t RQ % 4 ≡ 1) × (words t CPU ≡ c) → (put_at words n RQ x t RQ % 4 ≡ 1) × (put_at words n RQ x t CPU ≡ c)
        apart c t ne old = (ap (λ (z : ℕ). z % 4) (word_apart words n RQ x t RQ ne) ∙ old.0, rq_cpu n x t ∙ old.1)

        theirs : (j c t : ℕ) → t ≡ n → holder (words c QUEUE_LOCK) ≡ Some j → words t CPU ≡ c → j ≡ s
        theirs j c t q locked there =
            let same : c ≡ d = sym there ∙ ap (λ (k : ℕ). words k CPU) q ∙ here in
            one_seat (holder (words d QUEUE_LOCK)) s j queue (subst (λ (k : ℕ). holder (words k QUEUE_LOCK) ≡ Some j) same locked)

    pub dequeue_task_put : (d n m x : ℕ) → MayDequeue (core_of shape words homes traces) s d n → PutHolds (put_at words n RQ x) (put traces s (Dequeued n d m ∷ traces s))
    dequeue_task_put d n m x may = off_queue d n x (Dequeued n d m) may.locked may.here (off_column (has_put (traces s)) n)

    pub move_task_put : (d n m x : ℕ) (queue : Queue) → MayMove (core_of shape words homes traces) s d n queue
        → PutHolds (put_at words n RQ x) (put traces s (Moved n d m ∷ traces s))
    move_task_put d n m x queue may = off_queue d n x (Moved n d m) may.locked may.here (off_column (has_put (traces s)) n)

    pub store_cpu_put : (n d : ℕ) → MayStoreCpu (core_of shape words homes traces) s n d → PutHolds (put_at words n CPU d) (put traces s (StoredCpu n d ∷ traces s))
    store_cpu_put n d may =
        put_step (put_at words n CPU d) (StoredCpu n d) (λ j c t ne locked e. as_was j c t locked e) (λ c t locked e. as_was s c t locked e)
      where
        queued : words n RQ % 4 ≡ 1 → ⊥
        queued on = elim may.placeable [
          | inl new ↦ absurd (grind (arith, on, core.places.new.off n new))
          | inr rest ↦ elim rest [
            | inl off ↦ absurd (grind (arith, on, off.0))
            | inr moves ↦ absurd (grind (arith, on, moves))
          ]
        ]

        as_was : (j c t : ℕ) → holder (put_at words n CPU d c QUEUE_LOCK) ≡ Some j → has_put (traces j) c t ≡ true
            → (put_at words n CPU d t RQ % 4 ≡ 1) × (put_at words n CPU d t CPU ≡ c)
        as_was j c t locked e =
            let old = holds j c t (ap holder (sym (word_beside words n CPU d c QUEUE_LOCK (λ q. omega (arith, q)))) ∙ locked) e in (
              ap (λ (z : ℕ). z % 4) (word_beside words n CPU d t RQ (λ q. omega (arith, q))) ∙ old.0,
              word_apart words n CPU d t CPU (λ q. queued (subst (λ (k : ℕ). words k RQ % 4 ≡ 1) q old.0)) ∙ old.1,
            )

-- TASK_RUNNING of a task that the seat has put on a queue, under the queue's lock, where it isn't its current task
module _ (shape : Shape) (words : ℕ → ℕ → ℕ) (homes : Homes) (traces : ℕ → List Rec) (s : ℕ) (core : Holds (core_of shape words homes traces)) (holds : PutHolds words traces) where
  pub make_runnable_put_may : (c t : ℕ) (q : Queue) → s < shape.cpus + shape.agents → t < shape.tasks → queue_held (traces s) c ≡ Some q → has_put (traces s) c t ≡ true
      → has_added (traces s) c t ≡ true → current_task s (traces s) ≢ Some t → MayMakeRunnable (core_of shape words homes traces) s t
  make_runnable_put_may c t q seat task queue was added other =
      let held = queue_locked shape words homes traces s core seat c q queue in
      let at = holds s c t held was in
      record {
        seat = seat;
        task = task;
        processor = core.shapes.cpu t task;
        ready = inr (inr (
          subst (λ (k : ℕ). holder (words k QUEUE_LOCK) ≡ Some s) (sym at.1) held,
          subst (λ (k : ℕ). has_added (traces s) k t ≡ true) (sym at.1) added,
          at.0,
          idle (core.positions.idle.put s c t held added at.0 at.1),
        ));
      }
    where
      idle : (is_set (words t BUSY) ≡ false) ⊎ (current_task s (traces s) ≡ Some t) → is_set (words t BUSY) ≡ false
      idle (inl clear) = clear
      idle (inr mine) = absurd (other mine)
