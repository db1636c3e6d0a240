-- A task that was new as its lock's holder read it is new: kept by each kind of step, and what it allows.
use Rattle.std.proofs.Common.{◌≡◌, ◌≢◌, ℕ, suc, ◌<◌, inl, inr, refl, sym, ap, subst, ◌∙◌, List, [], ◌∷◌, arith}
use Rattle.std.specs.Prelude.{◌+◌, ◌/◌, Option, Some, None}
use Rattle.std.proofs.lemmas.Bool.{cases_eq}
use Rattle.core_data.specs.Columns.{put, put_at}
use Rattle.core_data.specs.Queue.{Queue}
use Rattle.core_data.specs.declared.values.TaskVal.{TaskVal}
use Rattle.core_invariant.specs.Invariant.{Holds}
use Rattle.core_kinds.specs.Running.{MayQueue, MayDequeue, MayMove}
use Rattle.core_kinds.specs.Waking.{MayMakeRunnable, MayStoreCpu}
use Rattle.core_stores.proofs.Columns.{put_there, put_other}
use Rattle.handoff_data.specs.declared.shape.Shape.{Shape}
use Rattle.word_steps.proofs.Conditions.{task_locked}
use Rattle.word_steps.proofs.MovingKept.{one_seat}
use Rattle.word_steps.proofs.Puts.{word_here, word_apart, word_beside, fold_here, fold_else}
use Rattle.word_steps.specs.TraceFacts.{NumbersHold}
use Rattle.word_steps.specs.Decode.{Homes, core_of}
use Rattle.word_steps.specs.Folds.{number_after, number_read, task_held}
use Rattle.word_steps.specs.Records.{Rec, Took, Gave, Queued, Dequeued, Moved, LoadedRq}
use Rattle.word_steps.specs.Words.{LOCK, RQ, holder}
use Rattle.word_steps.specs.declared.val.Val.TheVariants as val

pub numbers_start : (words : ℕ → ℕ → ℕ) → NumbersHold words (λ s. [])
numbers_start words s t locked e = absurd (grind (arith, e))

-- a number that was made isn't 0
no_zero : (m : ℕ) → ◌≡◌ {A = Option ℕ} (Some (m + 1)) (Some 0) → ⊥
no_zero m e = absurd (grind (arith, e))

read_zero : (m : ℕ) → ◌≡◌ {A = Option ℕ} (Some m) (Some 0) → m ≡ 0
read_zero m e = grind (arith, e)

module _ (words : ℕ → ℕ → ℕ) (traces : ℕ → List Rec) (s : ℕ) (holds : NumbersHold words traces) where
  -- a step that changes no lock of a task and no queue word, and reads no number
  pub numbers_quiet : (words' : ℕ → ℕ → ℕ) (r : Rec) → ((h : ℕ → Option ℕ) → number_after r h ≡ h)
      → ((t : ℕ) → words' t LOCK ≡ words t LOCK) → ((t : ℕ) → words' t RQ ≡ words t RQ) → NumbersHold words' (put traces s (r ∷ traces s))
  numbers_quiet words' r quiet lock rq j t locked e =
      ap (λ (z : ℕ). z / 4) (rq t) ∙ holds j t (ap holder (sym (lock t)) ∙ locked) (ap (λ (f : ℕ → Option ℕ). f t) (sym same) ∙ e)
    where
      same : number_read (put traces s (r ∷ traces s) j) ≡ number_read (traces j)
      same = elim (cases_eq j s) [
        | inl q ↦ fold_here number_read traces s r j q ∙ quiet (number_read (traces s)) ∙ ap (λ (k : ℕ). number_read (traces k)) (sym q)
        | inr ne ↦ fold_else number_read traces s r j ne
      ]

  -- one that changes a lock or the number of t, or reads it as n
  pub numbers_change : (t : ℕ) (n : Option ℕ) (words' : ℕ → ℕ → ℕ) (r : Rec) → ((h : ℕ → Option ℕ) → number_after r h ≡ put h t n)
      → ((u : ℕ) → u ≢ t → words' u LOCK ≡ words u LOCK) → ((u : ℕ) → u ≢ t → words' u RQ ≡ words u RQ)
      → (holder (words' t LOCK) ≡ Some s → n ≡ Some 0 → words' t RQ / 4 ≡ 0)
      → ((j : ℕ) → j ≢ s → holder (words' t LOCK) ≡ Some j → number_read (traces j) t ≡ Some 0 → words' t RQ / 4 ≡ 0)
      → NumbersHold words' (put traces s (r ∷ traces s))
  numbers_change t n words' r change lock rq here others j u locked e = elim (cases_eq u t) [
    | inl same ↦ ap (λ (k : ℕ). words' k RQ / 4) same
        ∙ at (subst (λ (k : ℕ). holder (words' k LOCK) ≡ Some j) same locked) (subst (λ (k : ℕ). number_read (put traces s (r ∷ traces s) j) k ≡ Some 0) same e)
    | inr ne ↦ ap (λ (z : ℕ). z / 4) (rq u ne) ∙ holds j u (ap holder (sym (lock u ne)) ∙ locked) (sym (elsewhere ne) ∙ e)
  ]
    where
      elsewhere : u ≢ t → number_read (put traces s (r ∷ traces s) j) u ≡ number_read (traces j) u
      elsewhere ne = elim (cases_eq j s) [
        | inl q ↦ ap (λ (f : ℕ → Option ℕ). f u) (fold_here number_read traces s r j q ∙ change (number_read (traces s)))
            ∙ put_other (number_read (traces s)) t n u ne ∙ ap (λ (k : ℕ). number_read (traces k) u) (sym q)
        | inr apart ↦ ap (λ (f : ℕ → Option ℕ). f u) (fold_else number_read traces s r j apart)
      ]

      at : holder (words' t LOCK) ≡ Some j → number_read (put traces s (r ∷ traces s) j) t ≡ Some 0 → words' t RQ / 4 ≡ 0
      at held is = elim (cases_eq j s) [
        | inl q ↦ here (held ∙ ap Some q)
            (sym (put_there (number_read (traces s)) t n t refl) ∙ ap (λ (f : ℕ → Option ℕ). f t) (sym (fold_here number_read traces s r j q ∙ change (number_read (traces s)))) ∙ is)
        | inr apart ↦ others j apart held (ap (λ (f : ℕ → Option ℕ). f t) (sym (fold_else number_read traces s r j apart)) ∙ is)
      ]

  pub numbers_beside : (n c x : ℕ) (r : Rec) → LOCK ≢ c → RQ ≢ c → ((h : ℕ → Option ℕ) → number_after r h ≡ h)
      → NumbersHold (put_at words n c x) (put traces s (r ∷ traces s))
  numbers_beside n c x r lock rq quiet =
      numbers_quiet (put_at words n c x) r quiet (λ t. word_beside words n c x t LOCK lock) (λ t. word_beside words n c x t RQ rq)

  pub numbers_still : (r : Rec) → ((h : ℕ → Option ℕ) → number_after r h ≡ h) → NumbersHold words (put traces s (r ∷ traces s))
  numbers_still r quiet = numbers_quiet words r quiet (λ t. refl) (λ t. refl)

  pub load_rq_numbers : (t on : ℕ) → NumbersHold words (put traces s (LoadedRq t on (words t RQ / 4) ∷ traces s))
  load_rq_numbers t on =
      numbers_change t (Some (words t RQ / 4)) words (LoadedRq t on (words t RQ / 4)) (λ h. refl) (λ u ne. refl) (λ u ne. refl)
      (λ locked e. read_zero (words t RQ / 4) e) (λ j ne locked e. holds j t locked e)

  pub take_task_numbers : (t : ℕ) (v : TaskVal) → NumbersHold (put_at words t LOCK (suc s)) (put traces s (Took t (val.Task v) ∷ traces s))
  take_task_numbers t v =
      numbers_change t None (put_at words t LOCK (suc s)) (Took t (val.Task v)) (λ h. refl)
      (λ u ne. word_apart words t LOCK (suc s) u LOCK ne) (λ u ne. word_apart words t LOCK (suc s) u RQ ne)
      (λ locked e. absurd (grind (arith, e)))
      (λ j ne locked e. absurd (ne (one_seat (Some s) s j refl (ap holder (sym (word_here words t LOCK (suc s))) ∙ locked))))

  pub give_task_numbers : (t : ℕ) (taken given : TaskVal) → NumbersHold (put_at words t LOCK 0) (put traces s (Gave t (val.Task taken) (val.Task given) ∷ traces s))
  give_task_numbers t taken given j u locked e = elim (cases_eq u t) [
    | inl same ↦ absurd (grind (arith, ap holder (sym (word_here words t LOCK 0)) ∙ subst (λ (k : ℕ). holder (put_at words t LOCK 0 k LOCK) ≡ Some j) same locked))
    | inr ne ↦ ap (λ (z : ℕ). z / 4) (word_apart words t LOCK 0 u RQ ne)
        ∙ holds j u (ap holder (sym (word_apart words t LOCK 0 u LOCK ne)) ∙ locked) (ap (λ (f : ℕ → Option ℕ). f u) (sym (as_before j)) ∙ e)
  ]
    where
      as_before : (j : ℕ) → number_read (put traces s (Gave t (val.Task taken) (val.Task given) ∷ traces s) j) ≡ number_read (traces j)
      as_before j = elim (cases_eq j s) [
        | inl q ↦ fold_here number_read traces s (Gave t (val.Task taken) (val.Task given)) j q ∙ ap (λ (k : ℕ). number_read (traces k)) (sym q)
        | inr ne ↦ fold_else number_read traces s (Gave t (val.Task taken) (val.Task given)) j ne
      ]

  module _ (shape : Shape) (homes : Homes) (core : Holds (core_of shape words homes traces)) where
    pub queue_task_numbers : (c t on m x : ℕ) → MayQueue (core_of shape words homes traces) s c t
        → NumbersHold (put_at words t RQ x) (put traces s (Queued t c on m ∷ traces s))
    queue_task_numbers c t on m x may =
        numbers_change t (Some (m + 1)) (put_at words t RQ x) (Queued t c on m) (λ h. refl)
        (λ u ne. word_apart words t RQ x u LOCK ne) (λ u ne. word_apart words t RQ x u RQ ne)
        (λ locked e. absurd (no_zero m e))
        (λ j ne locked e. absurd (ne (one_seat (holder (words t LOCK)) s j may.task_locked (ap holder (sym (word_beside words t RQ x t LOCK (λ q. omega (arith, q)))) ∙ locked))))

    pub dequeue_task_numbers : (c t m x : ℕ) → MayDequeue (core_of shape words homes traces) s c t
        → NumbersHold (put_at words t RQ x) (put traces s (Dequeued t c m ∷ traces s))
    dequeue_task_numbers c t m x may =
        numbers_change t (Some (m + 1)) (put_at words t RQ x) (Dequeued t c m) (λ h. refl)
        (λ u ne. word_apart words t RQ x u LOCK ne) (λ u ne. word_apart words t RQ x u RQ ne)
        (λ locked e. absurd (no_zero m e))
        (λ j ne locked e. absurd (started (holds j t (ap holder (sym (word_beside words t RQ x t LOCK (λ q. omega (arith, q)))) ∙ locked) e)))
      where
        started : words t RQ / 4 ≡ 0 → ⊥
        started new = absurd (grind (arith, core.places.new.off t new, may.queued))

    pub move_task_numbers : (c t m x : ℕ) (queue : Queue) → MayMove (core_of shape words homes traces) s c t queue
        → NumbersHold (put_at words t RQ x) (put traces s (Moved t c m ∷ traces s))
    move_task_numbers c t m x queue may =
        numbers_change t (Some (m + 1)) (put_at words t RQ x) (Moved t c m) (λ h. refl)
        (λ u ne. word_apart words t RQ x u LOCK ne) (λ u ne. word_apart words t RQ x u RQ ne)
        (λ locked e. absurd (no_zero m e))
        (λ j ne locked e. absurd (ne (one_seat (holder (words t LOCK)) s j may.task_locked (ap holder (sym (word_beside words t RQ x t LOCK (λ q. omega (arith, q)))) ∙ locked))))

    -- a new task, under its lock: it may have TASK_RUNNING stored, and a processor
    pub make_runnable_new_may : (t : ℕ) (v : TaskVal) → s < shape.cpus + shape.agents → t < shape.tasks → task_held (traces s) t ≡ Some v
        → number_read (traces s) t ≡ Some 0 → MayMakeRunnable (core_of shape words homes traces) s t
    make_runnable_new_may t v seat task out new =
        let locked = task_locked shape words homes traces s core seat t v out in
        record { seat = seat; task = task; processor = core.shapes.cpu t task; ready = inl (locked, holds s t locked new) }

    pub store_cpu_new_may : (t c : ℕ) (v : TaskVal) → s < shape.cpus + shape.agents → t < shape.tasks → c < shape.cpus → task_held (traces s) t ≡ Some v
        → number_read (traces s) t ≡ Some 0 → MayStoreCpu (core_of shape words homes traces) s t c
    store_cpu_new_may t c v seat task processor out new =
        let locked = task_locked shape words homes traces s core seat t v out in
        record { seat = seat; task = task; processor = processor; locked = locked; placeable = inl (holds s t locked new) }
