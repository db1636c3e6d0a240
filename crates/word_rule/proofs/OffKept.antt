-- The number that a seat read of a task that it saw off its queue is still the number: kept by each kind of step.
use Rattle.std.proofs.Common.{◌≡◌, ◌≢◌, ℕ, suc, inl, inr, refl, sym, ap, subst, ◌∙◌, List, [], ◌∷◌, arith}
use Rattle.std.specs.Prelude.{◌+◌, ◌/◌, ◌==◌, ◌&&◌, Bool, true, false, Option, Some, None}
use Rattle.std.proofs.lemmas.Bool.{cases_eq}
use Rattle.core_data.specs.Columns.{put, put_at}
use Rattle.core_data.specs.declared.values.TaskVal.{TaskVal}
use Rattle.core_invariant.specs.Invariant.{Holds}
use Rattle.core_kinds.specs.Running.{MayQueue, MayDequeue, MayMove}
use Rattle.core_data.specs.Queue.{Queue}
use Rattle.core_stores.proofs.Columns.{put_there, put_other}
use Rattle.handoff_data.specs.declared.shape.Shape.{Shape}
use Rattle.word_rule.specs.Standing.{OffHolds}
use Rattle.word_steps.proofs.MovingKept.{one_seat}
use Rattle.word_steps.proofs.Puts.{word_here, word_apart, word_beside, fold_here, fold_else}
use Rattle.word_steps.specs.Decode.{Homes, core_of}
use Rattle.word_steps.specs.Folds.{saw_off, number_read, put_if, is_unstored}
use Rattle.word_steps.specs.Records.{Rec, Took, Gave, Queued, Dequeued, Moved, LoadedRq}
use Rattle.word_steps.specs.Words.{LOCK, RQ, holder}
use Rattle.word_steps.specs.declared.val.Val.TheVariants as val

pub off_start : (words : ℕ → ℕ → ℕ) → OffHolds words (λ s. [])
off_start words s t m locked e = absurd (grind (arith, e))

same_number : (m n : ℕ) → ◌≡◌ {A = Option ℕ} (Some m) (Some n) → m ≡ n
same_number m n e = grind (arith, e)

module _ (words : ℕ → ℕ → ℕ) (traces : ℕ → List Rec) (s : ℕ) (holds : OffHolds words traces) where
  pub off_step : (words' : ℕ → ℕ → ℕ) (r : Rec)
      → ((j t : ℕ) → j ≢ s → holder (words' t LOCK) ≡ Some j → holder (words t LOCK) ≡ Some j)
      → ((j t : ℕ) → j ≢ s → holder (words t LOCK) ≡ Some j → saw_off (traces j) t ≡ true
      → words' t RQ / 4 ≡ words t RQ / 4)
      → ((t m : ℕ) → holder (words' t LOCK) ≡ Some s → saw_off (r ∷ traces s) t ≡ true
      → number_read (r ∷ traces s) t ≡ Some m → words' t RQ / 4 ≡ m)
      → OffHolds words' (put traces s (r ∷ traces s))
  off_step words' r was rq mine j t m locked off e = elim (cases_eq j s) [
    | inl q ↦ mine t m (locked ∙ ap Some q) (ap (λ (f : ℕ → Bool). f t) (sym (fold_here saw_off traces s r j q)) ∙ off)
        (ap (λ (f : ℕ → Option ℕ). f t) (sym (fold_here number_read traces s r j q)) ∙ e)
    | inr ne ↦ let seen = ap (λ (f : ℕ → Bool). f t) (sym (fold_else saw_off traces s r j ne)) ∙ off in
        rq j t ne (was j t ne locked) seen ∙ holds j t m (was j t ne locked) seen
        (ap (λ (f : ℕ → Option ℕ). f t) (sym (fold_else number_read traces s r j ne)) ∙ e)
  ]

  -- a step that changes no lock of a task and no queue word, reads no number, and sees no task off its queue
  pub off_beside : (n c x : ℕ) (r : Rec) → LOCK ≢ c → RQ ≢ c
      → ((t : ℕ) → saw_off (r ∷ traces s) t ≡ true → saw_off (traces s) t ≡ true)
      → number_read (r ∷ traces s) ≡ number_read (traces s)
      → OffHolds (put_at words n c x) (put traces s (r ∷ traces s))
  off_beside n c x r lock rq saw same =
      off_step (put_at words n c x) r (λ j t ne locked. locked_before j t locked) (λ j t ne locked off. same_rq t)
      (λ t m locked off e. same_rq t ∙ holds s t m (locked_before s t locked) (saw t off)
      (ap (λ (f : ℕ → Option ℕ). f t) (sym same) ∙ e))
    where
      locked_before : (j t : ℕ) → holder (put_at words n c x t LOCK) ≡ Some j → holder (words t LOCK) ≡ Some j
      locked_before j t locked = ap holder (sym (word_beside words n c x t LOCK lock)) ∙ locked

      same_rq : (t : ℕ) → put_at words n c x t RQ / 4 ≡ words t RQ / 4
      same_rq t = ap (λ (z : ℕ). z / 4) (word_beside words n c x t RQ rq)

  pub off_still : (r : Rec) → ((t : ℕ) → saw_off (r ∷ traces s) t ≡ true → saw_off (traces s) t ≡ true)
      → number_read (r ∷ traces s) ≡ number_read (traces s) → OffHolds words (put traces s (r ∷ traces s))
  off_still r saw same = off_step words r (λ j t ne locked. locked) (λ j t ne locked off. refl)
      (λ t m locked off e. holds s t m locked (saw t off) (ap (λ (f : ℕ → Option ℕ). f t) (sym same) ∙ e))

  -- a step that stores a word of the task u: nothing that was read before counts
  pub renewed : (u t : ℕ) → put (saw_off (traces s)) u false t ≡ true → saw_off (traces s) t ≡ true
  renewed u t e = elim (cases_eq t u) [
    | inl q ↦ absurd (grind (arith, sym (put_there (saw_off (traces s)) u false t q) ∙ e))
    | inr apart ↦ sym (put_other (saw_off (traces s)) u false t apart) ∙ e
  ]

  pub load_rq_off : (n on : ℕ) → OffHolds words (put traces s (LoadedRq n on (words n RQ / 4) ∷ traces s))
  load_rq_off n on =
      off_step words (LoadedRq n on (words n RQ / 4)) (λ j t ne locked. locked) (λ j t ne locked off. refl)
      (λ t m locked off e. elim (cases_eq t n) [
        | inl q ↦ ap (λ (k : ℕ). words k RQ / 4) q ∙ same_number (words n RQ / 4) m
            (sym (put_there (number_read (traces s)) n (Some (words n RQ / 4)) t q) ∙ e)
        | inr apart ↦ holds s t m locked (elsewhere ((on == 0) && is_unstored (traces s) n) t apart off)
            (sym (put_other (number_read (traces s)) n (Some (words n RQ / 4)) t apart) ∙ e)
      ])
    where
      elsewhere : (b : Bool) (t : ℕ) → t ≢ n → put_if b n true (saw_off (traces s)) t ≡ true
          → saw_off (traces s) t ≡ true
      elsewhere true t apart off = sym (put_other (saw_off (traces s)) n true t apart) ∙ off
      elsewhere false t apart off = off

  pub take_task_off : (n : ℕ) (v : TaskVal)
      → OffHolds (put_at words n LOCK (suc s)) (put traces s (Took n (val.Task v) ∷ traces s))
  take_task_off n v =
      off_step (put_at words n LOCK (suc s)) (Took n (val.Task v))
      (λ j t ne locked. was j t (λ q. ne (theirs j t q locked)) locked) (λ j t ne locked off. same_rq t)
      (λ t m locked off e. elim (cases_eq t n) [
        | inl q ↦ absurd (grind (arith, sym (put_there (saw_off (traces s)) n false t q) ∙ off))
        | inr apart ↦ same_rq t ∙ holds s t m (was s t apart locked)
            (sym (put_other (saw_off (traces s)) n false t apart) ∙ off)
            (sym (put_other (number_read (traces s)) n None t apart) ∙ e)
      ])
    where
      same_rq : (t : ℕ) → put_at words n LOCK (suc s) t RQ / 4 ≡ words t RQ / 4
      same_rq t = ap (λ (z : ℕ). z / 4) (word_beside words n LOCK (suc s) t RQ (λ q. omega (arith, q)))

      was : (j t : ℕ) → t ≢ n → holder (put_at words n LOCK (suc s) t LOCK) ≡ Some j → holder (words t LOCK) ≡ Some j
      was j t apart locked = ap holder (sym (word_apart words n LOCK (suc s) t LOCK apart)) ∙ locked

      theirs : (j t : ℕ) → t ≡ n → holder (put_at words n LOCK (suc s) t LOCK) ≡ Some j → j ≡ s
      theirs j t q locked = one_seat (Some s) s j refl (ap holder (sym (word_here words n LOCK (suc s)))
          ∙ subst (λ (k : ℕ). holder (put_at words n LOCK (suc s) k LOCK) ≡ Some j) q locked)

  pub give_task_off : (n : ℕ) (taken given : TaskVal)
      → OffHolds (put_at words n LOCK 0) (put traces s (Gave n (val.Task taken) (val.Task given) ∷ traces s))
  give_task_off n taken given =
      off_step (put_at words n LOCK 0) (Gave n (val.Task taken) (val.Task given)) (λ j t ne locked. was j t locked)
      (λ j t ne locked off. same_rq t)
      (λ t m locked off e. same_rq t ∙ holds s t m (was s t locked) off e)
    where
      same_rq : (t : ℕ) → put_at words n LOCK 0 t RQ / 4 ≡ words t RQ / 4
      same_rq t = ap (λ (z : ℕ). z / 4) (word_beside words n LOCK 0 t RQ (λ q. omega (arith, q)))

      was : (j t : ℕ) → holder (put_at words n LOCK 0 t LOCK) ≡ Some j → holder (words t LOCK) ≡ Some j
      was j t locked = elim (cases_eq t n) [
        | inl q ↦ absurd (grind (
          arith,
          ap holder (sym (word_here words n LOCK 0)) ∙ subst
              (λ (k : ℕ). holder (put_at words n LOCK 0 k LOCK) ≡ Some j) q locked,
        ))
        | inr apart ↦ ap holder (sym (word_apart words n LOCK 0 t LOCK apart)) ∙ locked
      ]

  -- a store of the queue word of n, which no other seat has seen off its queue under its lock
  stored_off : (n x : ℕ) (m' : ℕ) (r : Rec)
      → ((j : ℕ) → j ≢ s → holder (words n LOCK) ≡ Some j → saw_off (traces j) n ≡ true → ⊥)
      → saw_off (r ∷ traces s) ≡ put (saw_off (traces s)) n false
      → number_read (r ∷ traces s) ≡ put (number_read (traces s)) n (Some m')
      → OffHolds (put_at words n RQ x) (put traces s (r ∷ traces s))
  stored_off n x m' r others saw number =
      off_step (put_at words n RQ x) r (λ j t ne locked. was j t locked)
      (λ j t ne locked off. apart_rq t (λ q. others j ne (subst (λ (k : ℕ). holder (words k LOCK) ≡ Some j) q locked)
      (subst (λ (k : ℕ). saw_off (traces j) k ≡ true) q off)))
      (λ t m locked off e. mine t m (was s t locked) (ap (λ (f : ℕ → Bool). f t) (sym saw) ∙ off)
      (ap (λ (f : ℕ → Option ℕ). f t) (sym number) ∙ e))
    where
      was : (j t : ℕ) → holder (put_at words n RQ x t LOCK) ≡ Some j → holder (words t LOCK) ≡ Some j
      was j t locked = ap holder (sym (word_beside words n RQ x t LOCK (λ q. omega (arith, q)))) ∙ locked

      apart_rq : (t : ℕ) → t ≢ n → put_at words n RQ x t RQ / 4 ≡ words t RQ / 4
      apart_rq t apart = ap (λ (z : ℕ). z / 4) (word_apart words n RQ x t RQ apart)

      mine : (t m : ℕ) → holder (words t LOCK) ≡ Some s → put (saw_off (traces s)) n false t ≡ true
          → put (number_read (traces s)) n (Some m') t ≡ Some m → put_at words n RQ x t RQ / 4 ≡ m
      mine t m locked off e = elim (cases_eq t n) [
        | inl q ↦ absurd (grind (arith, sym (put_there (saw_off (traces s)) n false t q) ∙ off))
        | inr apart ↦ apart_rq t apart ∙ holds s t m locked
            (sym (put_other (saw_off (traces s)) n false t apart) ∙ off)
            (sym (put_other (number_read (traces s)) n (Some m') t apart) ∙ e)
      ]

  module _ (shape : Shape) (homes : Homes) (core : Holds (core_of shape words homes traces)) where
    pub queue_task_off : (c t on m x : ℕ) → MayQueue (core_of shape words homes traces) s c t
        → OffHolds (put_at words t RQ x) (put traces s (Queued t c on m ∷ traces s))
    queue_task_off c t on m x may =
        stored_off t x (m + 1) (Queued t c on m)
        (λ j ne locked off. ne (one_seat (holder (words t LOCK)) s j may.task_locked locked)) refl refl

    pub dequeue_task_off : (c t m x : ℕ) → MayDequeue (core_of shape words homes traces) s c t
        → OffHolds (put_at words t RQ x) (put traces s (Dequeued t c m ∷ traces s))
    dequeue_task_off c t m x may =
        stored_off t x (m + 1) (Dequeued t c m) (λ j ne locked off. absurd
        (grind (arith, core.positions.matched.off j t locked off, may.queued))) refl refl

    pub move_task_off : (c t m x : ℕ) (queue : Queue) → MayMove (core_of shape words homes traces) s c t queue
        → OffHolds (put_at words t RQ x) (put traces s (Moved t c m ∷ traces s))
    move_task_off c t m x queue may =
        stored_off t x (m + 1) (Moved t c m) (λ j ne locked off. ne
        (one_seat (holder (words t LOCK)) s j may.task_locked locked)) refl refl
