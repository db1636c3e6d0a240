-- A task stands in a queue whose lock is held as often as its words say: kept by each kind of step.
use Rattle.std.proofs.Common.{◌≡◌, ◌≢◌, ℕ, suc, inl, inr, refl, sym, ap, subst, ◌∙◌, List, [], ◌∷◌, arith}
use Rattle.std.specs.Prelude.{◌+◌, ◌-◌, ◌%◌, ◌==◌, ◌&&◌, Some, None, if◌then◌else◌}
use Rattle.std.proofs.lemmas.Bool.{cases_eq}
use Rattle.std.proofs.lemmas.Bool.Decides.{nat_tests}
use Rattle.core_data.specs.Columns.{put, put_at}
use Rattle.core_data.specs.Queue.{Queue}
use Rattle.core_gives.specs.Queues.{times}
use Rattle.core_invariant.specs.Invariant.{Holds}
use Rattle.core_kinds.specs.Running.{MayQueue, MayDequeue, MayMove}
use Rattle.core_kinds.specs.Waking.{MayStoreCpu}
use Rattle.core_stores.proofs.Columns.{put_there, put_other}
use Rattle.handoff_data.specs.declared.shape.Shape.{Shape}
use Rattle.word_rule.specs.Standing.{StandingHolds, standing, change_both}
use Rattle.word_steps.proofs.MovingKept.{one_seat}
use Rattle.word_steps.proofs.Puts.{word_here, word_apart, word_beside, fold_here, fold_else}
use Rattle.word_steps.specs.Decode.{Homes, core_of}
use Rattle.word_steps.specs.Opening.{first_words}
use Rattle.word_steps.specs.Records.{Rec, Took, Gave, Queued, Dequeued, Moved, StoredCpu}
use Rattle.word_steps.specs.Words.{QUEUE_LOCK, RQ, CPU, holder}
use Rattle.word_steps.specs.declared.val.Val.TheVariants as val

-- where no lock of a queue is held
pub standing_start : (words : ℕ → ℕ → ℕ) → ((c : ℕ) → holder (words c QUEUE_LOCK) ≡ None)
    → StandingHolds words (λ s. [])
standing_start words free s c t locked = absurd (grind (arith, sym (free c) ∙ locked))

pub standing_first : (shape : Shape) → StandingHolds (first_words shape) (λ s. [])
standing_first shape = standing_start (first_words shape) (λ c. refl)

-- how often a task stands in the queue of c, by its `on_rq` and its processor
abbrev count_at : ℕ → ℕ → ℕ → ℕ
count_at on at c = if (on == 1) && (at == c) then 1 else 0

same_count : (h on on' at at' c : ℕ) → h ≡ count_at on at c → on' ≡ on → at' ≡ at → h ≡ count_at on' at' c
same_count h on on' at at' c e p q = rw (p, q) e

-- it stands nowhere but on its processor's queue
elsewhere : (h on on' at c : ℕ) → h ≡ count_at on at c → at ≢ c → h ≡ count_at on' at c
elsewhere h on on' at c e ne = grind (arith, nat_tests, e, ne)

is_queued : (h on on' at c : ℕ) → h ≡ count_at on at c → at ≡ c → on ≢ 1 → on' ≡ 1 → h + 1 ≡ count_at on' at c
is_queued h on on' at c e here off now = grind (arith, nat_tests, e, here, off, now)

leaves : (h on on' at c : ℕ) → h ≡ count_at on at c → at ≡ c → on ≡ 1 → on' ≢ 1 → h - 1 ≡ count_at on' at c
leaves h on on' at c e here queued off = grind (arith, nat_tests, e, here, queued, off)

-- one that isn't queued stands nowhere
off_queues : (h on at at' c : ℕ) → h ≡ count_at on at c → on ≢ 1 → h ≡ count_at on at' c
off_queues h on at at' c e off = grind (arith, nat_tests, e, off)

changed_here : (h : ℕ → ℕ → ℕ) (c t : ℕ) (g : ℕ → ℕ) (k u : ℕ) → k ≡ c → u ≡ t → change_both h c t g k u ≡ g (h k u)
changed_here h c t g k u p q = grind (arith, nat_tests, p, q)

changed_else : (h : ℕ → ℕ → ℕ) (c t : ℕ) (g : ℕ → ℕ) (k u : ℕ) → (k ≡ c → u ≢ t) → change_both h c t g k u ≡ h k u
changed_else h c t g k u ne = elim (cases_eq k c) [
  | inl p ↦ let apart : u ≢ t = ne p in grind (arith, nat_tests, p, apart)
  | inr apart ↦ grind (arith, nat_tests, apart)
]

module _ (words : ℕ → ℕ → ℕ) (traces : ℕ → List Rec) (s : ℕ) (holds : StandingHolds words traces) where
  pub standing_step : (words' : ℕ → ℕ → ℕ) (r : Rec)
      → ((j c t : ℕ) → j ≢ s → holder (words' c QUEUE_LOCK) ≡ Some j
      → standing (traces j) c t ≡ count_at (words' t RQ % 4) (words' t CPU) c)
      → ((c t : ℕ) → holder (words' c QUEUE_LOCK) ≡ Some s
      → standing (r ∷ traces s) c t ≡ count_at (words' t RQ % 4) (words' t CPU) c)
      → StandingHolds words' (put traces s (r ∷ traces s))
  standing_step words' r others mine j c t locked = elim (cases_eq j s) [
    | inl q ↦ ap (λ (f : ℕ → ℕ → ℕ). f c t) (fold_here standing traces s r j q) ∙ mine c t (locked ∙ ap Some q)
    | inr ne ↦ ap (λ (f : ℕ → ℕ → ℕ). f c t) (fold_else standing traces s r j ne) ∙ others j c t ne locked
  ]

  -- a step that changes no lock of a queue, no queue word and no processor word, and neither puts a task on a queue nor
  -- takes one off
  pub standing_quiet : (words' : ℕ → ℕ → ℕ) (r : Rec) → ((c : ℕ) → words' c QUEUE_LOCK ≡ words c QUEUE_LOCK)
      → ((t : ℕ) → words' t CPU ≡ words t CPU) → ((t : ℕ) → words' t RQ ≡ words t RQ)
      → standing (r ∷ traces s) ≡ standing (traces s) → StandingHolds words' (put traces s (r ∷ traces s))
  standing_quiet words' r queue cpu rq same =
      standing_step words' r (λ j c t ne locked. as_was j c t locked) (λ c t locked. ap (λ (f : ℕ → ℕ → ℕ). f c t) same
      ∙ as_was s c t locked)
    where
      as_was : (j c t : ℕ) → holder (words' c QUEUE_LOCK) ≡ Some j
          → standing (traces j) c t ≡ count_at (words' t RQ % 4) (words' t CPU) c
      as_was j c t locked =
          same_count (standing (traces j) c t) (words t RQ % 4) (words' t RQ % 4) (words t CPU) (words' t CPU) c
          (holds j c t (ap holder (sym (queue c)) ∙ locked)) (ap (λ (z : ℕ). z % 4) (rq t)) (cpu t)

  pub standing_beside : (n c x : ℕ) (r : Rec) → QUEUE_LOCK ≢ c → CPU ≢ c → RQ ≢ c
      → standing (r ∷ traces s) ≡ standing (traces s)
      → StandingHolds (put_at words n c x) (put traces s (r ∷ traces s))
  standing_beside n c x r queue cpu rq same =
      standing_quiet (put_at words n c x) r (λ d. word_beside words n c x d QUEUE_LOCK queue)
      (λ t. word_beside words n c x t CPU cpu)
      (λ t. word_beside words n c x t RQ rq) same

  pub standing_still : (r : Rec) → standing (r ∷ traces s) ≡ standing (traces s)
      → StandingHolds words (put traces s (r ∷ traces s))
  standing_still r same = standing_quiet words r (λ c. refl) (λ t. refl) (λ t. refl) same

  -- the lock of a queue is taken or given
  lock_beside : (n x h c t : ℕ) → h ≡ count_at (words t RQ % 4) (words t CPU) c
      → h ≡ count_at (put_at words n QUEUE_LOCK x t RQ % 4) (put_at words n QUEUE_LOCK x t CPU) c
  lock_beside n x h c t e =
      same_count h (words t RQ % 4) (put_at words n QUEUE_LOCK x t RQ % 4) (words t CPU)
      (put_at words n QUEUE_LOCK x t CPU) c e
      (ap (λ (z : ℕ). z % 4) (word_beside words n QUEUE_LOCK x t RQ (λ q. omega (arith, q))))
      (word_beside words n QUEUE_LOCK x t CPU (λ q. omega (arith, q)))

  pub give_queue_standing : (n : ℕ) (taken given : Queue)
      → StandingHolds (put_at words n QUEUE_LOCK 0)
      (put traces s (Gave n (val.Queue taken) (val.Queue given) ∷ traces s))
  give_queue_standing n taken given =
      standing_step (put_at words n QUEUE_LOCK 0) (Gave n (val.Queue taken) (val.Queue given))
      (λ j c t ne locked. lock_beside n 0 (standing (traces j) c t) c t (holds j c t (was j c locked)))
      (λ c t locked. lock_beside n 0 (standing (traces s) c t) c t (holds s c t (was s c locked)))
    where
      was : (j c : ℕ) → holder (put_at words n QUEUE_LOCK 0 c QUEUE_LOCK) ≡ Some j
          → holder (words c QUEUE_LOCK) ≡ Some j
      was j c e = elim (cases_eq c n) [
        | inl q ↦ absurd (grind (
          arith,
          ap holder (sym (word_here words n QUEUE_LOCK 0))
              ∙ subst (λ (k : ℕ). holder (put_at words n QUEUE_LOCK 0 k QUEUE_LOCK) ≡ Some j) q e,
        ))
        | inr apart ↦ ap holder (sym (word_apart words n QUEUE_LOCK 0 c QUEUE_LOCK apart)) ∙ e
      ]

  -- a store of the queue word of n, under the lock of the queue of its processor d
  rq_store : (d n x : ℕ) (r : Rec) (g : ℕ → ℕ) → holder (words d QUEUE_LOCK) ≡ Some s → words n CPU ≡ d
      → standing (r ∷ traces s) ≡ change_both (standing (traces s)) d n g
      → ((h : ℕ) → h ≡ count_at (words n RQ % 4) (words n CPU) d → g h ≡ count_at (x % 4) (words n CPU) d)
      → StandingHolds (put_at words n RQ x) (put traces s (r ∷ traces s))
  rq_store d n x r g queue here made counts =
      standing_step (put_at words n RQ x) r
      (λ j c t ne locked. else_was j c t (λ q p. ne (theirs j c q (lock j c locked))) locked)
      (λ c t locked. ap (λ (f : ℕ → ℕ → ℕ). f c t) made ∙ mine c t locked)
    where
      lock : (j c : ℕ) → holder (put_at words n RQ x c QUEUE_LOCK) ≡ Some j → holder (words c QUEUE_LOCK) ≡ Some j
      lock j c locked = ap holder (sym (word_beside words n RQ x c QUEUE_LOCK (λ q. omega (arith, q)))) ∙ locked

      cpu : (t : ℕ) → put_at words n RQ x t CPU ≡ words t CPU
      cpu t = word_beside words n RQ x t CPU (λ q. omega (arith, q))

      theirs : (j c : ℕ) → c ≡ d → holder (words c QUEUE_LOCK) ≡ Some j → j ≡ s
      theirs j c q locked = one_seat (holder (words d QUEUE_LOCK)) s j queue
          (subst (λ (k : ℕ). holder (words k QUEUE_LOCK) ≡ Some j) q locked)

      -- of another task, or in another queue
      else_was : (j c t : ℕ) → (c ≡ d → t ≢ n) → holder (put_at words n RQ x c QUEUE_LOCK) ≡ Some j
          → standing (traces j) c t ≡ count_at (put_at words n RQ x t RQ % 4) (put_at words n RQ x t CPU) c
      else_was j c t other locked = let old = holds j c t (lock j c locked) in elim (cases_eq t n) [
        | inl p ↦ same_count (standing (traces j) c t) (put_at words n RQ x t RQ % 4) (put_at words n RQ x t RQ % 4)
            (words t CPU) (put_at words n RQ x t CPU) c
            (elsewhere (standing (traces j) c t) (words t RQ % 4) (put_at words n RQ x t RQ % 4) (words t CPU) c old
            (λ q. other (sym q ∙ ap (λ (k : ℕ). words k CPU) p ∙ here) p)) refl (cpu t)
        | inr apart ↦ same_count (standing (traces j) c t) (words t RQ % 4) (put_at words n RQ x t RQ % 4)
            (words t CPU) (put_at words n RQ x t CPU) c old
            (ap (λ (z : ℕ). z % 4) (word_apart words n RQ x t RQ apart)) (cpu t)
      ]

      now : standing (traces s) d n ≡ count_at (words n RQ % 4) (words n CPU) d
          → g (standing (traces s) d n) ≡ count_at (put_at words n RQ x n RQ % 4) (put_at words n RQ x n CPU) d
      now old =
          same_count (g (standing (traces s) d n)) (x % 4) (put_at words n RQ x n RQ % 4) (words n CPU)
          (put_at words n RQ x n CPU) d
          (counts (standing (traces s) d n) old) (ap (λ (z : ℕ). z % 4) (word_here words n RQ x)) (cpu n)

      mine : (c t : ℕ) → holder (put_at words n RQ x c QUEUE_LOCK) ≡ Some s
          → change_both (standing (traces s)) d n g c t ≡ count_at (put_at words n RQ x t RQ % 4)
          (put_at words n RQ x t CPU) c
      mine c t locked = elim (cases_eq c d) [
        | inr apart ↦ changed_else (standing (traces s)) d n g c t (λ q. absurd (apart q))
            ∙ else_was s c t (λ q. absurd (apart q)) locked
        | inl q ↦ elim (cases_eq t n) [
          | inr apart ↦ changed_else (standing (traces s)) d n g c t (λ same. apart)
              ∙ else_was s c t (λ same. apart) locked
          | inl p ↦ subst (λ (k : ℕ). change_both (standing (traces s)) d n g k t ≡ count_at
              (put_at words n RQ x t RQ % 4) (put_at words n RQ x t CPU) k) (sym q)
              (subst (λ (u : ℕ). change_both (standing (traces s)) d n g d u ≡ count_at (put_at words n RQ x u RQ % 4)
              (put_at words n RQ x u CPU) d) (sym p)
              (changed_here (standing (traces s)) d n g d n refl refl ∙ now (holds s d n queue)))
        ]
      ]

  module _ (shape : Shape) (homes : Homes) where
    pub queue_task_standing : (d n on m x : ℕ) → x % 4 ≡ 1 → MayQueue (core_of shape words homes traces) s d n
        → StandingHolds (put_at words n RQ x) (put traces s (Queued n d on m ∷ traces s))
    queue_task_standing d n on m x on_is may =
        rq_store d n x (Queued n d on m) (λ k. k + 1) may.locked may.here refl
        (λ h e. is_queued h (words n RQ % 4) (x % 4) (words n CPU) d e may.here may.off on_is)

    pub dequeue_task_standing : (d n m x : ℕ) → x % 4 ≡ 0 → MayDequeue (core_of shape words homes traces) s d n
        → StandingHolds (put_at words n RQ x) (put traces s (Dequeued n d m ∷ traces s))
    dequeue_task_standing d n m x on_is may =
        rq_store d n x (Dequeued n d m) (λ k. k - 1) may.locked may.here refl
        (λ h e. leaves h (words n RQ % 4) (x % 4) (words n CPU) d e may.here may.queued (λ q. omega (arith, q, on_is)))

    pub move_task_standing : (d n m x : ℕ) (queue : Queue) → x % 4 ≡ 2
        → MayMove (core_of shape words homes traces) s d n queue
        → StandingHolds (put_at words n RQ x) (put traces s (Moved n d m ∷ traces s))
    move_task_standing d n m x queue on_is may =
        rq_store d n x (Moved n d m) (λ k. k - 1) may.locked may.here refl
        (λ h e. leaves h (words n RQ % 4) (x % 4) (words n CPU) d e may.here may.queued (λ q. omega (arith, q, on_is)))

    module _ (core : Holds (core_of shape words homes traces)) where
      pub take_queue_standing : (n : ℕ) (v : Queue) → homes.queue n ≡ Some v
          → StandingHolds (put_at words n QUEUE_LOCK (suc s)) (put traces s (Took n (val.Queue v) ∷ traces s))
      take_queue_standing n v home =
          standing_step (put_at words n QUEUE_LOCK (suc s)) (Took n (val.Queue v))
          (λ j c t ne locked. lock_beside n (suc s) (standing (traces j) c t) c t
          (holds j c t (was j c (λ q. ne (theirs j c q locked)) locked))) mine
        where
          theirs : (j c : ℕ) → c ≡ n → holder (put_at words n QUEUE_LOCK (suc s) c QUEUE_LOCK) ≡ Some j → j ≡ s
          theirs j c q locked = one_seat (Some s) s j refl (ap holder (sym (word_here words n QUEUE_LOCK (suc s)))
              ∙ subst (λ (k : ℕ). holder (put_at words n QUEUE_LOCK (suc s) k QUEUE_LOCK) ≡ Some j) q locked)

          was : (j c : ℕ) → c ≢ n → holder (put_at words n QUEUE_LOCK (suc s) c QUEUE_LOCK) ≡ Some j
              → holder (words c QUEUE_LOCK) ≡ Some j
          was j c apart locked = ap holder (sym (word_apart words n QUEUE_LOCK (suc s) c QUEUE_LOCK apart)) ∙ locked

          mine : (c t : ℕ) → holder (put_at words n QUEUE_LOCK (suc s) c QUEUE_LOCK) ≡ Some s
              → put (standing (traces s)) n (times v) c t ≡ count_at (put_at words n QUEUE_LOCK (suc s) t RQ % 4)
              (put_at words n QUEUE_LOCK (suc s) t CPU) c
          mine c t locked = elim (cases_eq c n) [
            | inl q ↦ ap (λ (f : ℕ → ℕ). f t) (put_there (standing (traces s)) n (times v) c q)
                ∙ lock_beside n (suc s) (times v t) c t
                (core.queues.at_home c v (ap homes.queue q ∙ home) t)
            | inr apart ↦ ap (λ (f : ℕ → ℕ). f t) (put_other (standing (traces s)) n (times v) c apart)
                ∙ lock_beside n (suc s) (standing (traces s) c t) c t (holds s c t (was s c apart locked))
          ]

      pub store_cpu_standing : (n d : ℕ) → MayStoreCpu (core_of shape words homes traces) s n d
          → StandingHolds (put_at words n CPU d) (put traces s (StoredCpu n d ∷ traces s))
      store_cpu_standing n d may =
          standing_step (put_at words n CPU d) (StoredCpu n d) (λ j c t ne locked. as_was j c t locked)
          (λ c t locked. as_was s c t locked)
        where
          unqueued : words n RQ % 4 ≢ 1
          unqueued on = elim may.placeable [
            | inl new ↦ absurd (grind (arith, on, core.places.new.off n new))
            | inr rest ↦ elim rest [
              | inl off ↦ absurd (grind (arith, on, off.0))
              | inr moves ↦ absurd (grind (arith, on, moves))
            ]
          ]

          rq : (t : ℕ) → put_at words n CPU d t RQ % 4 ≡ words t RQ % 4
          rq t = ap (λ (z : ℕ). z % 4) (word_beside words n CPU d t RQ (λ q. omega (arith, q)))

          as_was : (j c t : ℕ) → holder (put_at words n CPU d c QUEUE_LOCK) ≡ Some j
              → standing (traces j) c t ≡ count_at (put_at words n CPU d t RQ % 4) (put_at words n CPU d t CPU) c
          as_was j c t locked =
              let old = holds j c t (ap holder (sym (word_beside words n CPU d c QUEUE_LOCK (λ q. omega (arith, q))))
              ∙ locked) in elim (cases_eq t n) [
                | inl p ↦ same_count (standing (traces j) c t) (words t RQ % 4) (put_at words n CPU d t RQ % 4)
                    (put_at words n CPU d t CPU) (put_at words n CPU d t CPU) c
                    (off_queues (standing (traces j) c t) (words t RQ % 4) (words t CPU)
                    (put_at words n CPU d t CPU) c old
                    (λ on. unqueued (subst (λ (k : ℕ). words k RQ % 4 ≡ 1) p on))) (rq t) refl
                | inr apart ↦ same_count (standing (traces j) c t) (words t RQ % 4) (put_at words n CPU d t RQ % 4)
                    (words t CPU) (put_at words n CPU d t CPU) c old (rq t)
                    (word_apart words n CPU d t CPU apart)
              ]
