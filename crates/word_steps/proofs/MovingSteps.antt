-- What is known of tasks between two queues, after each kind of step that changes it, and what a give may rest on.
use Rattle.std.proofs.Common.{◌≡◌, ◌≢◌, ℕ, suc, ◌<◌, inl, inr, refl, sym, ap, ◌∙◌, List, [], ◌∷◌, lt-ltb, le-ltb, lit<, subst, arith}
use Rattle.std.specs.Prelude.{◌+◌, ◌/◌, ◌%◌, ◌^◌, Bool, true, false, Some, if◌then◌else◌}
use Rattle.std.proofs.lemmas.Bool.{cases_lt}
use Rattle.core_data.specs.Columns.{put, put_at}
use Rattle.core_data.specs.Queue.{Queue}
use Rattle.core_data.specs.declared.values.TaskVal.{TaskVal}
use Rattle.core_invariant.specs.Invariant.{Holds}
use Rattle.core_kinds.specs.Locks.{MayTakeTask, MayGiveTask, IsSettled}
use Rattle.core_kinds.specs.Running.{MayQueue, MayDequeue, MayMove}
use Rattle.handoff_data.specs.declared.shape.Shape.{Shape}
use Rattle.word_steps.proofs.Conditions.{task_locked, settled_unclaimed}
use Rattle.word_steps.proofs.MovingKept.{moving_change, moving_quiet, one_seat}
use Rattle.word_steps.proofs.Puts.{word_here, word_apart, word_beside}
use Rattle.word_steps.specs.TraceFacts.{MovingHolds, StatesFit}
use Rattle.word_steps.specs.Decode.{Homes, core_of}
use Rattle.word_steps.specs.Folds.{is_moving, moving_after, task_held, is_claimed}
use Rattle.word_steps.specs.Opening.{first_words}
use Rattle.word_steps.specs.Records.{Rec, Took, Gave, Queued, Dequeued, Moved}
use Rattle.word_steps.specs.Words.{LOCK, RQ, holder}
use Rattle.word_steps.specs.declared.val.Val.TheVariants as val

-- a new table
pub moving_start : (shape : Shape) → MovingHolds (first_words shape) (λ s. [])
moving_start shape = record { known = λ s t e. absurd (grind (arith, e)); noted = λ s t locked e. absurd (grind (arith, e)) }

pub states_start : (shape : Shape) → StatesFit (first_words shape)
states_start shape t = elim (cases_lt t shape.tasks) [
  | inl h ↦ subst (λ (b : Bool). (if b then 0x800 else 0) < 2 ^ 16) (sym (lt-ltb t shape.tasks h)) (lit< tt)
  | inr h ↦ subst (λ (b : Bool). (if b then 0x800 else 0) < 2 ^ 16) (sym (le-ltb t shape.tasks h)) (lit< tt)
]

module _ (shape : Shape) (words : ℕ → ℕ → ℕ) (homes : Homes) (traces : ℕ → List Rec) (s : ℕ) (moving : MovingHolds words traces) where
  -- a step that changes neither a lock of a task nor a queue word
  pub moving_beside : (n c x : ℕ) (r : Rec) → LOCK ≢ c → RQ ≢ c → ((h : ℕ → Bool) → moving_after r h ≡ h)
      → MovingHolds (put_at words n c x) (put traces s (r ∷ traces s))
  moving_beside n c x r lock rq quiet =
      moving_quiet words traces s (put_at words n c x) r moving quiet (λ t. word_beside words n c x t LOCK lock) (λ t. word_beside words n c x t RQ rq)

  -- one that changes no word
  pub moving_still : (r : Rec) → ((h : ℕ → Bool) → moving_after r h ≡ h) → MovingHolds words (put traces s (r ∷ traces s))
  moving_still r quiet = moving_quiet words traces s words r moving quiet (λ t. refl) (λ t. refl)

  pub take_task_moves : (t : ℕ) (v : TaskVal) → Holds (core_of shape words homes traces) → MayTakeTask (core_of shape words homes traces) s t
      → MovingHolds (put_at words t LOCK (suc s)) (put traces s (Took t (val.Task v) ∷ traces s))
  take_task_moves t v holds may =
      moving_change words traces s t (put_at words t LOCK (suc s)) (Took t (val.Task v)) false moving (λ h. refl)
      (λ u ne. word_apart words t LOCK (suc s) u LOCK ne) (λ u ne. word_apart words t LOCK (suc s) u RQ ne)
      (λ j ne m. absurd (grind (arith, (moving.known j t m).0, may.free)))
      (λ e. absurd (grind (arith, e)))
      (λ j locked moves. absurd (nobody (ap (λ (z : ℕ). z % 4) (sym (word_beside words t LOCK (suc s) t RQ (λ e. omega (arith, e)))) ∙ moves)))
    where
      nobody : words t RQ % 4 ≡ 2 → ⊥
      nobody moves = let o = holds.places.moving.locked t moves in absurd (grind (arith, o.1, may.free))

  pub give_task_moves : (t : ℕ) (taken given : TaskVal) (stood done : Bool) → MayGiveTask (core_of shape words homes traces) s t given stood done
      → MovingHolds (put_at words t LOCK 0) (put traces s (Gave t (val.Task taken) (val.Task given) ∷ traces s))
  give_task_moves t taken given stood done may =
      moving_change words traces s t (put_at words t LOCK 0) (Gave t (val.Task taken) (val.Task given)) false moving (λ h. refl)
      (λ u ne. word_apart words t LOCK 0 u LOCK ne) (λ u ne. word_apart words t LOCK 0 u RQ ne)
      (λ j ne m. may.settled.0 (moving.known j t m).1)
      (λ e. absurd (grind (arith, e)))
      (λ j locked moves. absurd (may.settled.0 (ap (λ (z : ℕ). z % 4) (sym (word_beside words t LOCK 0 t RQ (λ e. omega (arith, e)))) ∙ moves)))

  pub queue_task_moves : (c t x : ℕ) → x % 4 ≡ 1 → MayQueue (core_of shape words homes traces) s c t
      → MovingHolds (put_at words t RQ x) (put traces s (Queued t c (words t RQ % 4) (words t RQ / 4) ∷ traces s))
  queue_task_moves c t x on_is may =
      moving_change words traces s t (put_at words t RQ x) (Queued t c (words t RQ % 4) (words t RQ / 4)) false moving (λ h. refl)
      (λ u ne. word_apart words t RQ x u LOCK ne) (λ u ne. word_apart words t RQ x u RQ ne)
      (λ j ne m. ne (one_seat (holder (words t LOCK)) s j may.task_locked (moving.known j t m).0))
      (λ e. absurd (grind (arith, e)))
      (λ j locked moves. absurd (grind (arith, on_is, ap (λ (z : ℕ). z % 4) (sym (word_here words t RQ x)) ∙ moves)))

  pub dequeue_task_moves : (c t x : ℕ) → x % 4 ≡ 0 → MayDequeue (core_of shape words homes traces) s c t
      → MovingHolds (put_at words t RQ x) (put traces s (Dequeued t c (words t RQ / 4) ∷ traces s))
  dequeue_task_moves c t x on_is may =
      moving_change words traces s t (put_at words t RQ x) (Dequeued t c (words t RQ / 4)) false moving (λ h. refl)
      (λ u ne. word_apart words t RQ x u LOCK ne) (λ u ne. word_apart words t RQ x u RQ ne)
      (λ j ne m. absurd (grind (arith, (moving.known j t m).1, may.queued)))
      (λ e. absurd (grind (arith, e)))
      (λ j locked moves. absurd (grind (arith, on_is, ap (λ (z : ℕ). z % 4) (sym (word_here words t RQ x)) ∙ moves)))

  pub move_task_moves : (c t x : ℕ) (queue : Queue) → x % 4 ≡ 2 → MayMove (core_of shape words homes traces) s c t queue
      → MovingHolds (put_at words t RQ x) (put traces s (Moved t c (words t RQ / 4) ∷ traces s))
  move_task_moves c t x queue on_is may =
      moving_change words traces s t (put_at words t RQ x) (Moved t c (words t RQ / 4)) true moving (λ h. refl)
      (λ u ne. word_apart words t RQ x u LOCK ne) (λ u ne. word_apart words t RQ x u RQ ne)
      (λ j ne m. absurd (grind (arith, (moving.known j t m).1, may.queued)))
      (λ e. (ap holder (word_beside words t RQ x t LOCK (λ q. omega (arith, q))) ∙ may.task_locked, ap (λ (z : ℕ). z % 4) (word_here words t RQ x) ∙ on_is))
      (λ j locked moves. (one_seat (holder (words t LOCK)) s j may.task_locked (ap holder (sym (word_beside words t RQ x t LOCK (λ q. omega (arith, q)))) ∙ locked), refl))

  -- a seat may give a task's lock as far as its place goes where it has neither claimed nor moved it without queueing it
  pub settled_given : (t : ℕ) (v : TaskVal) → Holds (core_of shape words homes traces) → s < shape.cpus + shape.agents → task_held (traces s) t ≡ Some v
      → is_claimed (traces s) t ≡ false → is_moving (traces s) t ≡ false → IsSettled (core_of shape words homes traces) t
  settled_given t v holds seat out unclaimed unmoved =
      settled_unclaimed shape words homes traces s holds seat t v out unclaimed
      (λ moves. absurd (grind (arith, moving.noted s t (task_locked shape words homes traces s holds seat t v out) moves, unmoved)))
