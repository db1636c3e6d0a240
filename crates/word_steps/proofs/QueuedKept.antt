-- A task that was read as queued under its own lock and its queue's is queued: kept by each kind of step.
use Rattle.std.proofs.Common.{◌≡◌, ◌≢◌, ℕ, suc, ◌<◌, inl, inr, refl, sym, ap, subst, ◌∙◌, List, [], ◌∷◌, arith}
use Rattle.std.specs.Prelude.{◌+◌, ◌%◌, ◌==◌, Bool, true, false, Some}
use Rattle.std.proofs.lemmas.Bool.{cases_eq, cases_Bool}
use Rattle.std.proofs.lemmas.Bool.Decides.{nat_tests}
use Rattle.core_data.specs.Columns.{put, put_at}
use Rattle.core_data.specs.Queue.{Queue}
use Rattle.core_data.specs.declared.values.TaskVal.{TaskVal}
use Rattle.core_invariant.specs.Invariant.{Holds}
use Rattle.core_kinds.specs.Running.{MayDequeue, MayMove}
use Rattle.core_kinds.specs.Waking.{MayMakeRunnable, MayStoreCpu}
use Rattle.handoff_data.specs.declared.shape.Shape.{Shape}
use Rattle.word_steps.proofs.Conditions.{task_locked, queue_locked}
use Rattle.word_steps.proofs.MovingKept.{one_seat}
use Rattle.word_steps.proofs.Puts.{word_here, word_apart, word_beside, fold_here, fold_else}
use Rattle.word_steps.specs.TraceFacts.{QueuedHolds, IsUnder}
use Rattle.word_steps.specs.Decode.{Homes, core_of}
use Rattle.word_steps.specs.Folds.{saw_queued, put_column, put_column_if, put_row, task_held, queue_held, has_matched, current_task}
use Rattle.word_steps.specs.Records.{Rec, Took, Gave, LoadedRq, Queued, Dequeued, Moved, StoredCpu}
use Rattle.word_steps.specs.Words.{LOCK, QUEUE_LOCK, RQ, CPU, holder}
use Rattle.word_steps.specs.declared.val.Val.TheVariants as val

pub queued_start : (words : ℕ → ℕ → ℕ) → QueuedHolds words (λ s. [])
queued_start words s c t under e = absurd (grind (arith, e))

-- a mark that isn't of this task, or not of this queue
off_column : (h : ℕ → ℕ → Bool) (n c t : ℕ) → put_column h n false c t ≡ true → (t ≢ n) × (h c t ≡ true)
off_column h n c t e = (λ q. absurd (grind (arith, nat_tests, q, e)), grind (arith, nat_tests, e))

off_row : (h : ℕ → ℕ → Bool) (n c t : ℕ) → put_row h n false c t ≡ true → (c ≢ n) × (h c t ≡ true)
off_row h n c t e = (λ q. absurd (grind (arith, nat_tests, q, e)), grind (arith, nat_tests, e))

module _ (words : ℕ → ℕ → ℕ) (traces : ℕ → List Rec) (s : ℕ) (holds : QueuedHolds words traces) where
  pub queued_step : (words' : ℕ → ℕ → ℕ) (r : Rec)
      → ((j c t : ℕ) → j ≢ s → IsUnder words' j c t → IsUnder words j c t)
      → ((j c t : ℕ) → j ≢ s → IsUnder words' j c t → words t RQ % 4 ≡ 1 → words' t RQ % 4 ≡ 1)
      → ((c t : ℕ) → IsUnder words' s c t → saw_queued (r ∷ traces s) c t ≡ true → words' t RQ % 4 ≡ 1)
      → QueuedHolds words' (put traces s (r ∷ traces s))
  queued_step words' r was on mine j c t under e = elim (cases_eq j s) [
    | inl q ↦ mine c t (subst (λ (k : ℕ). IsUnder words' k c t) q under) (ap (λ (f : ℕ → ℕ → Bool). f c t) (sym (fold_here saw_queued traces s r j q)) ∙ e)
    | inr ne ↦ on j c t ne under (holds j c t (was j c t ne under) (ap (λ (f : ℕ → ℕ → Bool). f c t) (sym (fold_else saw_queued traces s r j ne)) ∙ e))
  ]

  -- a step that changes no lock of a task or a queue, no queue word and no processor word, and reads no queue word
  pub queued_quiet : (words' : ℕ → ℕ → ℕ) (r : Rec) → ((t : ℕ) → words' t LOCK ≡ words t LOCK) → ((c : ℕ) → words' c QUEUE_LOCK ≡ words c QUEUE_LOCK)
      → ((t : ℕ) → words' t CPU ≡ words t CPU) → ((t : ℕ) → words' t RQ ≡ words t RQ)
      → ((c t : ℕ) → saw_queued (r ∷ traces s) c t ≡ true → saw_queued (traces s) c t ≡ true) → QueuedHolds words' (put traces s (r ∷ traces s))
  queued_quiet words' r lock queue cpu rq saw =
      queued_step words' r (λ j c t ne under. as_was j c t under) (λ j c t ne under on. ap (λ (z : ℕ). z % 4) (rq t) ∙ on)
      (λ c t under e. ap (λ (z : ℕ). z % 4) (rq t) ∙ holds s c t (as_was s c t under) (saw c t e))
    where
      as_was : (j c t : ℕ) → IsUnder words' j c t → IsUnder words j c t
      as_was j c t under = record {
        task = ap holder (sym (lock t)) ∙ under.task;
        queue = ap holder (sym (queue c)) ∙ under.queue;
        here = sym (cpu t) ∙ under.here;
      }

  pub queued_beside : (n c x : ℕ) (r : Rec) → LOCK ≢ c → QUEUE_LOCK ≢ c → CPU ≢ c → RQ ≢ c
      → ((d t : ℕ) → saw_queued (r ∷ traces s) d t ≡ true → saw_queued (traces s) d t ≡ true) → QueuedHolds (put_at words n c x) (put traces s (r ∷ traces s))
  queued_beside n c x r lock queue cpu rq saw =
      queued_quiet (put_at words n c x) r (λ t. word_beside words n c x t LOCK lock) (λ d. word_beside words n c x d QUEUE_LOCK queue)
      (λ t. word_beside words n c x t CPU cpu) (λ t. word_beside words n c x t RQ rq) saw

  pub queued_still : (r : Rec) → ((d t : ℕ) → saw_queued (r ∷ traces s) d t ≡ true → saw_queued (traces s) d t ≡ true) → QueuedHolds words (put traces s (r ∷ traces s))
  queued_still r saw = queued_quiet words r (λ t. refl) (λ c. refl) (λ t. refl) (λ t. refl) saw

  pub load_rq_queued : (n m : ℕ) → QueuedHolds words (put traces s (LoadedRq n (words n RQ % 4) m ∷ traces s))
  load_rq_queued n m =
      queued_step words (LoadedRq n (words n RQ % 4) m) (λ j c t ne under. under) (λ j c t ne under on. on)
      (λ c t under e. seen (words n RQ % 4) refl c t under e)
    where
      seen : (on : ℕ) → on ≡ words n RQ % 4 → (c t : ℕ) → IsUnder words s c t → put_column_if (words n RQ % 4 == 1) n true (saw_queued (traces s)) c t ≡ true → words t RQ % 4 ≡ 1
      seen on is c t under e = elim (cases_Bool (words n RQ % 4 == 1)) [
        | inl one ↦ elim (cases_eq t n) [
          | inl same ↦ ap (λ (k : ℕ). words k RQ % 4) same ∙ grind (arith, nat_tests, one)
          | inr ne ↦ holds s c t under (grind (arith, nat_tests, ne, subst (λ (b : Bool). put_column_if b n true (saw_queued (traces s)) c t ≡ true) one e))
        ]
        | inr other ↦ holds s c t under (subst (λ (b : Bool). put_column_if b n true (saw_queued (traces s)) c t ≡ true) other e)
      ]

  -- the lock of a task or a queue is taken: nothing that was read before counts
  pub take_task_queued : (n : ℕ) (v : TaskVal) → QueuedHolds (put_at words n LOCK (suc s)) (put traces s (Took n (val.Task v) ∷ traces s))
  take_task_queued n v =
      queued_step (put_at words n LOCK (suc s)) (Took n (val.Task v))
      (λ j c t ne under. was j c t (theirs j c t ne under) under) (λ j c t ne under on. ap (λ (z : ℕ). z % 4) (rq t) ∙ on)
      (λ c t under e. let off = off_column (saw_queued (traces s)) n c t e in ap (λ (z : ℕ). z % 4) (rq t) ∙ holds s c t (was s c t off.0 under) off.1)
    where
      rq : (t : ℕ) → put_at words n LOCK (suc s) t RQ ≡ words t RQ
      rq t = word_beside words n LOCK (suc s) t RQ (λ q. omega (arith, q))

      theirs : (j c t : ℕ) → j ≢ s → IsUnder (put_at words n LOCK (suc s)) j c t → t ≢ n
      theirs j c t ne under q = ne (one_seat (Some s) s j refl (ap holder (sym (word_here words n LOCK (suc s)))
          ∙ subst (λ (k : ℕ). holder (put_at words n LOCK (suc s) k LOCK) ≡ Some j) q under.task))

      was : (j c t : ℕ) → t ≢ n → IsUnder (put_at words n LOCK (suc s)) j c t → IsUnder words j c t
      was j c t apart under = record {
        task = ap holder (sym (word_apart words n LOCK (suc s) t LOCK apart)) ∙ under.task;
        queue = ap holder (sym (word_beside words n LOCK (suc s) c QUEUE_LOCK (λ q. omega (arith, q)))) ∙ under.queue;
        here = sym (word_beside words n LOCK (suc s) t CPU (λ q. omega (arith, q))) ∙ under.here;
      }

  pub take_queue_queued : (n : ℕ) (v : Queue) → QueuedHolds (put_at words n QUEUE_LOCK (suc s)) (put traces s (Took n (val.Queue v) ∷ traces s))
  take_queue_queued n v =
      queued_step (put_at words n QUEUE_LOCK (suc s)) (Took n (val.Queue v))
      (λ j c t ne under. was j c t (theirs j c t ne under) under) (λ j c t ne under on. ap (λ (z : ℕ). z % 4) (rq t) ∙ on)
      (λ c t under e. let off = off_row (saw_queued (traces s)) n c t e in ap (λ (z : ℕ). z % 4) (rq t) ∙ holds s c t (was s c t off.0 under) off.1)
    where
      rq : (t : ℕ) → put_at words n QUEUE_LOCK (suc s) t RQ ≡ words t RQ
      rq t = word_beside words n QUEUE_LOCK (suc s) t RQ (λ q. omega (arith, q))

      theirs : (j c t : ℕ) → j ≢ s → IsUnder (put_at words n QUEUE_LOCK (suc s)) j c t → c ≢ n
      theirs j c t ne under q = ne (one_seat (Some s) s j refl (ap holder (sym (word_here words n QUEUE_LOCK (suc s)))
          ∙ subst (λ (k : ℕ). holder (put_at words n QUEUE_LOCK (suc s) k QUEUE_LOCK) ≡ Some j) q under.queue))

      was : (j c t : ℕ) → c ≢ n → IsUnder (put_at words n QUEUE_LOCK (suc s)) j c t → IsUnder words j c t
      was j c t apart under = record {
        task = ap holder (sym (word_beside words n QUEUE_LOCK (suc s) t LOCK (λ q. omega (arith, q)))) ∙ under.task;
        queue = ap holder (sym (word_apart words n QUEUE_LOCK (suc s) c QUEUE_LOCK apart)) ∙ under.queue;
        here = sym (word_beside words n QUEUE_LOCK (suc s) t CPU (λ q. omega (arith, q))) ∙ under.here;
      }

  -- a lock of a task or a queue is given
  pub give_task_queued : (n : ℕ) (taken given : TaskVal) → QueuedHolds (put_at words n LOCK 0) (put traces s (Gave n (val.Task taken) (val.Task given) ∷ traces s))
  give_task_queued n taken given =
      queued_step (put_at words n LOCK 0) (Gave n (val.Task taken) (val.Task given)) (λ j c t ne under. was j c t under) (λ j c t ne under on. ap (λ (z : ℕ). z % 4) (rq t) ∙ on)
      (λ c t under e. ap (λ (z : ℕ). z % 4) (rq t) ∙ holds s c t (was s c t under) e)
    where
      rq : (t : ℕ) → put_at words n LOCK 0 t RQ ≡ words t RQ
      rq t = word_beside words n LOCK 0 t RQ (λ q. omega (arith, q))

      locked : (j t : ℕ) → holder (put_at words n LOCK 0 t LOCK) ≡ Some j → holder (words t LOCK) ≡ Some j
      locked j t e = elim (cases_eq t n) [
        | inl q ↦ absurd (grind (arith, ap holder (sym (word_here words n LOCK 0)) ∙ subst (λ (k : ℕ). holder (put_at words n LOCK 0 k LOCK) ≡ Some j) q e))
        | inr apart ↦ ap holder (sym (word_apart words n LOCK 0 t LOCK apart)) ∙ e
      ]

      was : (j c t : ℕ) → IsUnder (put_at words n LOCK 0) j c t → IsUnder words j c t
      was j c t under = record {
        task = locked j t under.task;
        queue = ap holder (sym (word_beside words n LOCK 0 c QUEUE_LOCK (λ q. omega (arith, q)))) ∙ under.queue;
        here = sym (word_beside words n LOCK 0 t CPU (λ q. omega (arith, q))) ∙ under.here;
      }

  pub give_queue_queued : (n : ℕ) (taken given : Queue) → QueuedHolds (put_at words n QUEUE_LOCK 0) (put traces s (Gave n (val.Queue taken) (val.Queue given) ∷ traces s))
  give_queue_queued n taken given =
      queued_step (put_at words n QUEUE_LOCK 0) (Gave n (val.Queue taken) (val.Queue given)) (λ j c t ne under. was j c t under)
      (λ j c t ne under on. ap (λ (z : ℕ). z % 4) (rq t) ∙ on) (λ c t under e. ap (λ (z : ℕ). z % 4) (rq t) ∙ holds s c t (was s c t under) e)
    where
      rq : (t : ℕ) → put_at words n QUEUE_LOCK 0 t RQ ≡ words t RQ
      rq t = word_beside words n QUEUE_LOCK 0 t RQ (λ q. omega (arith, q))

      locked : (j c : ℕ) → holder (put_at words n QUEUE_LOCK 0 c QUEUE_LOCK) ≡ Some j → holder (words c QUEUE_LOCK) ≡ Some j
      locked j c e = elim (cases_eq c n) [
        | inl q ↦ absurd (grind (arith, ap holder (sym (word_here words n QUEUE_LOCK 0)) ∙ subst (λ (k : ℕ). holder (put_at words n QUEUE_LOCK 0 k QUEUE_LOCK) ≡ Some j) q e))
        | inr apart ↦ ap holder (sym (word_apart words n QUEUE_LOCK 0 c QUEUE_LOCK apart)) ∙ e
      ]

      was : (j c t : ℕ) → IsUnder (put_at words n QUEUE_LOCK 0) j c t → IsUnder words j c t
      was j c t under = record {
        task = ap holder (sym (word_beside words n QUEUE_LOCK 0 t LOCK (λ q. omega (arith, q)))) ∙ under.task;
        queue = locked j c under.queue;
        here = sym (word_beside words n QUEUE_LOCK 0 t CPU (λ q. omega (arith, q))) ∙ under.here;
      }

  -- a store of a queue word: under the lock of the task's queue, so nobody else reads it there
  rq_under : (n x j c t : ℕ) → IsUnder (put_at words n RQ x) j c t → IsUnder words j c t
  rq_under n x j c t under = record {
    task = ap holder (sym (word_beside words n RQ x t LOCK (λ q. omega (arith, q)))) ∙ under.task;
    queue = ap holder (sym (word_beside words n RQ x c QUEUE_LOCK (λ q. omega (arith, q)))) ∙ under.queue;
    here = sym (word_beside words n RQ x t CPU (λ q. omega (arith, q))) ∙ under.here;
  }

  pub queue_task_queued : (d n on m x : ℕ) → x % 4 ≡ 1 → QueuedHolds (put_at words n RQ x) (put traces s (Queued n d on m ∷ traces s))
  queue_task_queued d n on m x on_is =
      queued_step (put_at words n RQ x) (Queued n d on m) (λ j c t ne under. rq_under n x j c t under) (λ j c t ne under was. stays t was)
      (λ c t under e. stays t (holds s c t (rq_under n x s c t under) e))
    where
      stays : (t : ℕ) → words t RQ % 4 ≡ 1 → put_at words n RQ x t RQ % 4 ≡ 1
      stays t was = elim (cases_eq t n) [
        | inl q ↦ ap (λ (k : ℕ). put_at words n RQ x k RQ % 4) q ∙ ap (λ (z : ℕ). z % 4) (word_here words n RQ x) ∙ on_is
        | inr ne ↦ ap (λ (z : ℕ). z % 4) (word_apart words n RQ x t RQ ne) ∙ was
      ]

  -- .. to another value
  leaves : (d n x : ℕ) (r : Rec) → holder (words d QUEUE_LOCK) ≡ Some s → words n CPU ≡ d
      → ((c t : ℕ) → saw_queued (r ∷ traces s) c t ≡ true → (t ≢ n) × (saw_queued (traces s) c t ≡ true)) → QueuedHolds (put_at words n RQ x) (put traces s (r ∷ traces s))
  leaves d n x r queue here off =
      queued_step (put_at words n RQ x) r (λ j c t ne under. rq_under n x j c t under)
      (λ j c t ne under was. apart t (theirs j c t ne (rq_under n x j c t under)) was)
      (λ c t under e. let so = off c t e in apart t so.0 (holds s c t (rq_under n x s c t under) so.1))
    where
      apart : (t : ℕ) → t ≢ n → words t RQ % 4 ≡ 1 → put_at words n RQ x t RQ % 4 ≡ 1
      apart t ne was = ap (λ (z : ℕ). z % 4) (word_apart words n RQ x t RQ ne) ∙ was

      theirs : (j c t : ℕ) → j ≢ s → IsUnder words j c t → t ≢ n
      theirs j c t ne under q =
          let same : c ≡ d = sym under.here ∙ ap (λ (k : ℕ). words k CPU) q ∙ here in
          ne (one_seat (holder (words d QUEUE_LOCK)) s j queue (subst (λ (k : ℕ). holder (words k QUEUE_LOCK) ≡ Some j) same under.queue))

  module _ (shape : Shape) (homes : Homes) where
    pub dequeue_task_queued : (d n m x : ℕ) → MayDequeue (core_of shape words homes traces) s d n → QueuedHolds (put_at words n RQ x) (put traces s (Dequeued n d m ∷ traces s))
    dequeue_task_queued d n m x may = leaves d n x (Dequeued n d m) may.locked may.here (off_column (saw_queued (traces s)) n)

    pub move_task_queued : (d n m x : ℕ) (queue : Queue) → MayMove (core_of shape words homes traces) s d n queue
        → QueuedHolds (put_at words n RQ x) (put traces s (Moved n d m ∷ traces s))
    move_task_queued d n m x queue may = leaves d n x (Moved n d m) may.locked may.here (off_column (saw_queued (traces s)) n)

    pub store_cpu_queued : (n d : ℕ) → MayStoreCpu (core_of shape words homes traces) s n d → QueuedHolds (put_at words n CPU d) (put traces s (StoredCpu n d ∷ traces s))
    store_cpu_queued n d may =
        queued_step (put_at words n CPU d) (StoredCpu n d) (λ j c t ne under. was j c t (theirs j c t ne under) under) (λ j c t ne under on. ap (λ (z : ℕ). z % 4) (rq t) ∙ on)
        (λ c t under e. let off = off_column (saw_queued (traces s)) n c t e in ap (λ (z : ℕ). z % 4) (rq t) ∙ holds s c t (was s c t off.0 under) off.1)
      where
        rq : (t : ℕ) → put_at words n CPU d t RQ ≡ words t RQ
        rq t = word_beside words n CPU d t RQ (λ q. omega (arith, q))

        lock : (t : ℕ) → put_at words n CPU d t LOCK ≡ words t LOCK
        lock t = word_beside words n CPU d t LOCK (λ q. omega (arith, q))

        theirs : (j c t : ℕ) → j ≢ s → IsUnder (put_at words n CPU d) j c t → t ≢ n
        theirs j c t ne under q = ne (one_seat (holder (words n LOCK)) s j may.locked
            (subst (λ (k : ℕ). holder (words k LOCK) ≡ Some j) q (ap holder (sym (lock t)) ∙ under.task)))

        was : (j c t : ℕ) → t ≢ n → IsUnder (put_at words n CPU d) j c t → IsUnder words j c t
        was j c t apart under = record {
          task = ap holder (sym (lock t)) ∙ under.task;
          queue = ap holder (sym (word_beside words n CPU d c QUEUE_LOCK (λ q. omega (arith, q)))) ∙ under.queue;
          here = sym (word_apart words n CPU d t CPU apart) ∙ under.here;
        }

    -- TASK_RUNNING of a queued task that matched, under its lock and its queue's
    pub make_runnable_queued_may : (c t : ℕ) (v : TaskVal) (q : Queue) (core : Holds (core_of shape words homes traces)) (seat : s < shape.cpus + shape.agents) → t < shape.tasks
        → task_held (traces s) t ≡ Some v → queue_held (traces s) c ≡ Some q → words t CPU ≡ c → has_matched (traces s) t ≡ true → saw_queued (traces s) c t ≡ true
        → current_task s (traces s) ≢ Some t → MayMakeRunnable (core_of shape words homes traces) s t
    make_runnable_queued_may c t v q core seat task out queue here matched saw other =
        let locked = task_locked shape words homes traces s core seat t v out in
        let held = queue_locked shape words homes traces s core seat c q queue in
        record {
          seat = seat;
          task = task;
          processor = core.shapes.cpu t task;
          ready = inr (inl (locked, matched, holds s c t (record { task = locked; queue = held; here = here }) saw, subst (λ (k : ℕ). holder (words k QUEUE_LOCK) ≡ Some s) (sym here) held, other));
        }
