-- The number of a task that a seat has on its way to a queue is the one that the seat read or made: kept by each kind of
-- step.
use Rattle.std.proofs.Common.{◌≡◌, ◌≢◌, ℕ, suc, inl, inr, refl, sym, ap, subst, ◌∙◌, List, [], ◌∷◌, arith}
use Rattle.std.specs.Prelude.{◌+◌, ◌/◌, ◌%◌, ◌^◌, Bool, true, false, Option, Some, None}
use Rattle.std.proofs.lemmas.Bool.{cases_eq}
use Rattle.core_data.specs.Columns.{Columns, put, put_at}
use Rattle.core_data.specs.Queue.{Queue}
use Rattle.core_data.specs.declared.values.TaskVal.{TaskVal}
use Rattle.core_invariant.specs.Invariant.{Holds}
use Rattle.core_kinds.specs.Running.{MayQueue, MayDequeue, MayMove}
use Rattle.core_kinds.specs.Waking.{MayClaim}
use Rattle.core_law.specs.Steps.{Step}
use Rattle.core_law.specs.declared.step.StepKind.{StepKind}
use Rattle.core_law.specs.declared.step.StepKind.TheVariants as step
use Rattle.core_stores.proofs.Columns.{put_there, put_other}
use Rattle.handoff_data.specs.declared.shape.Shape.{Shape}
use Rattle.word_rule.proofs.GrownKept.{same_number}
use Rattle.word_rule.specs.Standing.{OffHolds}
use Rattle.word_rule.specs.Ways.{WaysHold, IsOnWay}
use Rattle.word_steps.proofs.MovingKept.{one_seat}
use Rattle.word_steps.proofs.Puts.{word_here, word_apart, word_beside, fold_here, fold_else}
use Rattle.word_steps.specs.TraceFacts.{MovingHolds}
use Rattle.word_steps.specs.Decode.{Homes, core_of, core_after}
use Rattle.word_steps.specs.Events.{IsEvent, IsNoted, Writes}
use Rattle.word_steps.specs.Folds.{is_claimed, is_moving, number_read, saw_off}
use Rattle.word_steps.specs.Records.{Rec, Took, Gave, OutBody, HomeBody, Queued, Dequeued, Moved, SetBusy, ClearedBusy, StateSet, Claimed, MadeRunnable, LoadedState, LoadedRq, LoadedBusy, LoadedCpu}
use Rattle.word_steps.specs.Records.{LoadedCount, StoredCpu, Bumped, LoadedCond}
use Rattle.word_steps.specs.Words.{LOCK, STATE, RQ, BUSY, CPU, COUNT, QUEUE_LOCK, WORKS_LOCK, WAIT_LOCK, COND, is_set, holder}
use Rattle.word_steps.specs.declared.val.Val.TheVariants as val

pub ways_start : (words : ℕ → ℕ → ℕ) → WaysHold words (λ s. [])
ways_start words s t m (inl e) number = absurd (grind (arith, e))
ways_start words s t m (inr e) number = absurd (grind (arith, e))

-- a mark that is taken from n
unmarked : (h : ℕ → Bool) (n t : ℕ) → put h n false t ≡ true → (t ≢ n) × (h t ≡ true)
unmarked h n t e = elim (cases_eq t n) [
  | inl q ↦ absurd (grind (arith, sym (put_there h n false t q) ∙ e))
  | inr apart ↦ (apart, sym (put_other h n false t apart) ∙ e)
]

-- .. and one that is put there
marked : (h : ℕ → Bool) (n t : ℕ) → t ≢ n → put h n true t ≡ true → h t ≡ true
marked h n t apart e = sym (put_other h n true t apart) ∙ e

-- the number of another task than the one that was read
of_other : (h : ℕ → Option ℕ) (n : ℕ) (o : Option ℕ) (t m : ℕ) → t ≢ n → put h n o t ≡ Some m → h t ≡ Some m
of_other h n o t m apart e = sym (put_other h n o t apart) ∙ e

of_this : (h : ℕ → Option ℕ) (n x t m : ℕ) → t ≡ n → put h n (Some x) t ≡ Some m → x ≡ m
of_this h n x t m q e = same_number x m (sym (put_there h n (Some x) t q) ∙ e)

module _ (words : ℕ → ℕ → ℕ) (traces : ℕ → List Rec) (s : ℕ) (holds : WaysHold words traces) where
  ways_step : (words' : ℕ → ℕ → ℕ) (r : Rec)
      → ((j t : ℕ) → j ≢ s → IsOnWay (traces j) t → words' t RQ / 4 ≡ words t RQ / 4)
      → ((t m : ℕ) → IsOnWay (r ∷ traces s) t → number_read (r ∷ traces s) t ≡ Some m → words' t RQ / 4 ≡ m)
      → WaysHold words' (put traces s (r ∷ traces s))
  ways_step words' r others mine j t m way e = elim (cases_eq j s) [
    | inl q ↦ mine t m (here q way) (ap (λ (f : ℕ → Option ℕ). f t) (sym (fold_here number_read traces s r j q)) ∙ e)
    | inr ne ↦ others j t ne (there ne way) ∙ holds j t m (there ne way)
        (ap (λ (f : ℕ → Option ℕ). f t) (sym (fold_else number_read traces s r j ne)) ∙ e)
  ]
    where
      here : j ≡ s → IsOnWay (put traces s (r ∷ traces s) j) t → IsOnWay (r ∷ traces s) t
      here q (inl claims) = inl (ap (λ (f : ℕ → Bool). f t) (sym (fold_here is_claimed traces s r j q)) ∙ claims)
      here q (inr moves) = inr (ap (λ (f : ℕ → Bool). f t) (sym (fold_here is_moving traces s r j q)) ∙ moves)

      there : j ≢ s → IsOnWay (put traces s (r ∷ traces s) j) t → IsOnWay (traces j) t
      there ne (inl claims) = inl (ap (λ (f : ℕ → Bool). f t) (sym (fold_else is_claimed traces s r j ne)) ∙ claims)
      there ne (inr moves) = inr (ap (λ (f : ℕ → Bool). f t) (sym (fold_else is_moving traces s r j ne)) ∙ moves)

  -- a step that changes no queue word, reads no number, and by which no task is on its way that wasn't
  ways_quiet : (words' : ℕ → ℕ → ℕ) (r : Rec) → ((t : ℕ) → words' t RQ ≡ words t RQ)
      → ((t : ℕ) → IsOnWay (r ∷ traces s) t → IsOnWay (traces s) t)
      → number_read (r ∷ traces s) ≡ number_read (traces s) → WaysHold words' (put traces s (r ∷ traces s))
  ways_quiet words' r same way number =
      ways_step words' r (λ j t ne w. same_rq t)
      (λ t m w e. same_rq t ∙ holds s t m (way t w) (ap (λ (f : ℕ → Option ℕ). f t) (sym number) ∙ e))
    where
      same_rq : (t : ℕ) → words' t RQ / 4 ≡ words t RQ / 4
      same_rq t = ap (λ (z : ℕ). z / 4) (same t)

  pub ways_beside : (n c x : ℕ) (r : Rec) → RQ ≢ c → ((t : ℕ) → IsOnWay (r ∷ traces s) t → IsOnWay (traces s) t)
      → number_read (r ∷ traces s) ≡ number_read (traces s)
      → WaysHold (put_at words n c x) (put traces s (r ∷ traces s))
  ways_beside n c x r rq way number =
      ways_quiet (put_at words n c x) r (λ t. word_beside words n c x t RQ rq) way number

  pub ways_still : (r : Rec) → ((t : ℕ) → IsOnWay (r ∷ traces s) t → IsOnWay (traces s) t)
      → number_read (r ∷ traces s) ≡ number_read (traces s) → WaysHold words (put traces s (r ∷ traces s))
  ways_still r way number = ways_quiet words r (λ t. refl) way number

  pub take_task_ways : (n x : ℕ) (v : TaskVal)
      → WaysHold (put_at words n LOCK x) (put traces s (Took n (val.Task v) ∷ traces s))
  take_task_ways n x v =
      ways_step (put_at words n LOCK x) (Took n (val.Task v)) (λ j t ne w. same_rq t)
      (λ t m w e. elim (cases_eq t n) [
        | inl q ↦ absurd (grind (arith, sym (put_there (number_read (traces s)) n None t q) ∙ e))
        | inr apart ↦ same_rq t ∙ holds s t m (was t w) (of_other (number_read (traces s)) n None t m apart e)
      ])
    where
      same_rq : (t : ℕ) → put_at words n LOCK x t RQ / 4 ≡ words t RQ / 4
      same_rq t = ap (λ (z : ℕ). z / 4) (word_beside words n LOCK x t RQ (λ q. omega (arith, q)))

      was : (t : ℕ) → IsOnWay (Took n (val.Task v) ∷ traces s) t → IsOnWay (traces s) t
      was t (inl claims) = inl claims
      was t (inr moves) = inr (unmarked (is_moving (traces s)) n t moves).1

  pub give_task_ways : (n x : ℕ) (taken given : TaskVal)
      → WaysHold (put_at words n LOCK x) (put traces s (Gave n (val.Task taken) (val.Task given) ∷ traces s))
  give_task_ways n x taken given =
      ways_beside n LOCK x (Gave n (val.Task taken) (val.Task given)) (λ q. omega (arith, q)) was refl
    where
      was : (t : ℕ) → IsOnWay (Gave n (val.Task taken) (val.Task given) ∷ traces s) t → IsOnWay (traces s) t
      was t (inl claims) = inl claims
      was t (inr moves) = inr (unmarked (is_moving (traces s)) n t moves).1

  pub load_rq_ways : (n on : ℕ) → WaysHold words (put traces s (LoadedRq n on (words n RQ / 4) ∷ traces s))
  load_rq_ways n on =
      ways_step words (LoadedRq n on (words n RQ / 4)) (λ j t ne w. refl) (λ t m w e. elim (cases_eq t n) [
        | inl q ↦ ap (λ (k : ℕ). words k RQ / 4) q ∙ of_this (number_read (traces s)) n (words n RQ / 4) t m q e
        | inr apart ↦ holds s t m w (of_other (number_read (traces s)) n (Some (words n RQ / 4)) t m apart e)
      ])

  -- a store of the queue word of n with the next number, where no other seat has n on its way
  next_ways : (n x : ℕ) (r : Rec) → x / 4 ≡ words n RQ / 4 + 1
      → ((j : ℕ) → j ≢ s → IsOnWay (traces j) n → ⊥)
      → ((t : ℕ) → t ≢ n → IsOnWay (r ∷ traces s) t → IsOnWay (traces s) t)
      → number_read (r ∷ traces s) ≡ put (number_read (traces s)) n (Some (words n RQ / 4 + 1))
      → WaysHold (put_at words n RQ x) (put traces s (r ∷ traces s))
  next_ways n x r next others way number =
      ways_step (put_at words n RQ x) r
      (λ j t ne w. apart_rq t (λ q. others j ne (subst (λ (k : ℕ). IsOnWay (traces j) k) q w)))
      (λ t m w e. mine t m w (ap (λ (f : ℕ → Option ℕ). f t) (sym number) ∙ e))
    where
      apart_rq : (t : ℕ) → t ≢ n → put_at words n RQ x t RQ / 4 ≡ words t RQ / 4
      apart_rq t apart = ap (λ (z : ℕ). z / 4) (word_apart words n RQ x t RQ apart)

      mine : (t m : ℕ) → IsOnWay (r ∷ traces s) t → put (number_read (traces s)) n (Some (words n RQ / 4 + 1)) t ≡ Some m
          → put_at words n RQ x t RQ / 4 ≡ m
      mine t m w e = elim (cases_eq t n) [
        | inl q ↦ ap (λ (k : ℕ). put_at words n RQ x k RQ / 4) q ∙ ap (λ (z : ℕ). z / 4) (word_here words n RQ x) ∙ next
            ∙ of_this (number_read (traces s)) n (words n RQ / 4 + 1) t m q e
        | inr apart ↦ apart_rq t apart ∙ holds s t m (way t apart w)
            (of_other (number_read (traces s)) n (Some (words n RQ / 4 + 1)) t m apart e)
      ]

  module _ (shape : Shape) (homes : Homes) (moving : MovingHolds words traces) (core : Holds (core_of shape words homes traces)) where
    -- the number of a claim is the one that was read
    pub claim_ways : (n m : ℕ) → OffHolds words traces → MayClaim (core_of shape words homes traces) s n
        → WaysHold (put_at words n STATE 0x200) (put traces s (Claimed n m ∷ traces s))
    claim_ways n m off may =
        ways_step (put_at words n STATE 0x200) (Claimed n m) (λ j t ne w. same_rq t)
        (λ t k w e. same_rq t ∙ elim (cases_eq t n) [
          | inl q ↦ off s t k (subst (λ (u : ℕ). holder (words u LOCK) ≡ Some s) (sym q) may.locked)
              (subst (λ (u : ℕ). saw_off (traces s) u ≡ true) (sym q) may.saw_off) e
          | inr apart ↦ holds s t k (was t apart w) e
        ])
      where
        same_rq : (t : ℕ) → put_at words n STATE 0x200 t RQ / 4 ≡ words t RQ / 4
        same_rq t = ap (λ (z : ℕ). z / 4) (word_beside words n STATE 0x200 t RQ (λ q. omega (arith, q)))

        was : (t : ℕ) → t ≢ n → IsOnWay (Claimed n m ∷ traces s) t → IsOnWay (traces s) t
        was t apart (inl claims) = inl (marked (is_claimed (traces s)) n t apart claims)
        was t apart (inr moves) = inr moves

    -- the seat that has a task on its way has its lock
    way_locked : (j t : ℕ) → IsOnWay (traces j) t → holder (words t LOCK) ≡ Some j
    way_locked j t (inl claims) = core.positions.claimed.locked j t claims
    way_locked j t (inr moves) = (moving.known j t moves).0

    -- .. and it isn't queued
    way_off : (j t : ℕ) → IsOnWay (traces j) t → words t RQ % 4 ≡ 1 → ⊥
    way_off j t (inl claims) on = absurd (grind (arith, core.positions.claimed.off j t claims, on))
    way_off j t (inr moves) on = absurd (grind (arith, (moving.known j t moves).1, on))

    pub queue_task_ways : (c n on x : ℕ) → x / 4 ≡ words n RQ / 4 + 1 → MayQueue (core_of shape words homes traces) s c n
        → WaysHold (put_at words n RQ x) (put traces s (Queued n c on (words n RQ / 4) ∷ traces s))
    queue_task_ways c n on x next may =
        next_ways n x (Queued n c on (words n RQ / 4)) next
        (λ j ne w. ne (one_seat (holder (words n LOCK)) s j may.task_locked (way_locked j n w))) was refl
      where
        was : (t : ℕ) → t ≢ n → IsOnWay (Queued n c on (words n RQ / 4) ∷ traces s) t → IsOnWay (traces s) t
        was t apart (inl claims) = inl (unmarked (is_claimed (traces s)) n t claims).1
        was t apart (inr moves) = inr (unmarked (is_moving (traces s)) n t moves).1

    pub dequeue_task_ways : (c n x : ℕ) → x / 4 ≡ words n RQ / 4 + 1 → MayDequeue (core_of shape words homes traces) s c n
        → WaysHold (put_at words n RQ x) (put traces s (Dequeued n c (words n RQ / 4) ∷ traces s))
    dequeue_task_ways c n x next may =
        next_ways n x (Dequeued n c (words n RQ / 4)) next (λ j ne w. way_off j n w may.queued) was refl
      where
        was : (t : ℕ) → t ≢ n → IsOnWay (Dequeued n c (words n RQ / 4) ∷ traces s) t → IsOnWay (traces s) t
        was t apart (inl claims) = inl claims
        was t apart (inr moves) = inr (unmarked (is_moving (traces s)) n t moves).1

    pub move_task_ways : (c n x : ℕ) (queue : Queue) → x / 4 ≡ words n RQ / 4 + 1
        → MayMove (core_of shape words homes traces) s c n queue
        → WaysHold (put_at words n RQ x) (put traces s (Moved n c (words n RQ / 4) ∷ traces s))
    move_task_ways c n x queue next may =
        next_ways n x (Moved n c (words n RQ / 4)) next (λ j ne w. way_off j n w may.queued) was refl
      where
        was : (t : ℕ) → t ≢ n → IsOnWay (Moved n c (words n RQ / 4) ∷ traces s) t → IsOnWay (traces s) t
        was t apart (inl claims) = inl claims
        was t apart (inr moves) = inr (marked (is_moving (traces s)) n t apart moves)

-- an event leaves the words and the trace that its kind says
as_made : (traces : ℕ → List Rec) (s : ℕ) (words' made : ℕ → ℕ → ℕ) (r noted : Rec) → words' ≡ made → r ≡ noted
    → WaysHold made (put traces s (noted ∷ traces s)) → WaysHold words' (put traces s (r ∷ traces s))
as_made traces s words' made r noted word record_is h =
    subst (λ (w : ℕ → ℕ → ℕ). WaysHold w (put traces s (r ∷ traces s))) (sym word)
    (subst (λ (x : Rec). WaysHold made (put traces s (x ∷ traces s))) (sym record_is) h)

module _ (shape : Shape) (words : ℕ → ℕ → ℕ) (homes : Homes) (traces : ℕ → List Rec) (s : ℕ)
    (core : Holds (core_of shape words homes traces)) (moving : MovingHolds words traces) (off : OffHolds words traces)
    (ways : WaysHold words traces) where
  -- the next number of a queue word is in the word that was put there
  next_word : (t x : ℕ) (w : ℕ → ℕ → ℕ) → w ≡ put_at words t RQ x → w t RQ / 4 ≡ words t RQ / 4 + 1 → x / 4 ≡ words t RQ / 4 + 1
  next_word t x w writes next =
      ap (λ (z : ℕ). z / 4) (sym (word_here words t RQ x) ∙ ap (λ (f : ℕ → ℕ → ℕ). f t RQ) (sym writes)) ∙ next

  ways_by : (kind : StepKind) (r : Rec) (words' : ℕ → ℕ → ℕ) (homes' : Homes) → IsNoted (core_of shape words homes traces) s kind r
      → Writes s kind words words' → Step (core_of shape words homes traces) (record { seat = s; step = kind }) (core_after shape words' homes' traces s r)
      → WaysHold words' (put traces s (r ∷ traces s))
  ways_by (step.TakeTask t) r w h noted writes made =
      as_made traces s w (put_at words t LOCK (suc s)) r (Took t (val.Task noted.0)) writes noted.2
      (take_task_ways words traces s ways t (suc s) noted.0)
  ways_by (step.GiveTask t given stood done) r w h noted writes made =
      as_made traces s w (put_at words t LOCK 0) r (Gave t (val.Task noted.0) (val.Task given)) writes noted.2
      (give_task_ways words traces s ways t 0 noted.0 given)
  ways_by (step.TakeQueue c) r w h noted writes made =
      as_made traces s w (put_at words c QUEUE_LOCK (suc s)) r (Took c (val.Queue noted.0)) writes noted.2
      (ways_beside words traces s ways c QUEUE_LOCK (suc s) (Took c (val.Queue noted.0)) (λ e. omega (arith, e)) (λ u way. way) refl)
  ways_by (step.GiveQueue c given) r w h noted writes made =
      as_made traces s w (put_at words c QUEUE_LOCK (0)) r (Gave c (val.Queue noted.0) (val.Queue given)) writes noted.2
      (ways_beside words traces s ways c QUEUE_LOCK (0) (Gave c (val.Queue noted.0) (val.Queue given)) (λ e. omega (arith, e)) (λ u way. way) refl)
  ways_by (step.TakeWait k) r w h noted writes made =
      as_made traces s w (put_at words k WAIT_LOCK (suc s)) r (Took k (val.Wait noted.0)) writes noted.2
      (ways_beside words traces s ways k WAIT_LOCK (suc s) (Took k (val.Wait noted.0)) (λ e. omega (arith, e)) (λ u way. way) refl)
  ways_by (step.GiveWait k given) r w h noted writes made =
      as_made traces s w (put_at words k WAIT_LOCK (0)) r (Gave k (val.Wait noted.0) (val.Wait given)) writes noted.2
      (ways_beside words traces s ways k WAIT_LOCK (0) (Gave k (val.Wait noted.0) (val.Wait given)) (λ e. omega (arith, e)) (λ u way. way) refl)
  ways_by (step.TakeWorks c) r w h noted writes made =
      as_made traces s w (put_at words c WORKS_LOCK (suc s)) r (Took c (val.Works noted.0)) writes noted.2
      (ways_beside words traces s ways c WORKS_LOCK (suc s) (Took c (val.Works noted.0)) (λ e. omega (arith, e)) (λ u way. way) refl)
  ways_by (step.GiveWorks c given) r w h noted writes made =
      as_made traces s w (put_at words c WORKS_LOCK (0)) r (Gave c (val.Works noted.0) (val.Works given)) writes noted.2
      (ways_beside words traces s ways c WORKS_LOCK (0) (Gave c (val.Works noted.0) (val.Works given)) (λ e. omega (arith, e)) (λ u way. way) refl)
  ways_by (step.BodyOut t) r w h noted writes made =
      as_made traces s w words r (OutBody t (homes.ended t)) writes noted (ways_still words traces s ways (OutBody t (homes.ended t)) (λ u way. way) refl)
  ways_by (step.BodyHome t ended) r w h noted writes made =
      as_made traces s w words r (HomeBody t ended) writes noted (ways_still words traces s ways (HomeBody t ended) (λ u way. way) refl)
  ways_by (step.QueueTask c t) r w h noted writes made =
      as_made traces s w (put_at words t RQ writes.0) r (Queued t c (words t RQ % 4) (words t RQ / 4)) writes.1 noted
      (queue_task_ways words traces s ways shape homes moving core c t (words t RQ % 4) writes.0 (next_word t writes.0 w writes.1 (ap (λ (c : Columns). c.changes t) made.next_is
      ∙ put_there (λ u. words u RQ / 4) t (words t RQ / 4 + 1) t refl)) made.possible)
  ways_by (step.DequeueTask c t) r w h noted writes made =
      as_made traces s w (put_at words t RQ writes.0) r (Dequeued t c (words t RQ / 4)) writes.1 noted
      (dequeue_task_ways words traces s ways shape homes moving core c t writes.0 (next_word t writes.0 w writes.1 (ap (λ (c : Columns). c.changes t) made.next_is
      ∙ put_there (λ u. words u RQ / 4) t (words t RQ / 4 + 1) t refl)) made.possible)
  ways_by (step.MoveTask c t queue) r w h noted writes made =
      as_made traces s w (put_at words t RQ writes.0) r (Moved t c (words t RQ / 4)) writes.1 noted
      (move_task_ways words traces s ways shape homes moving core c t writes.0 queue (next_word t writes.0 w writes.1 (ap (λ (c : Columns). c.changes t) made.next_is
      ∙ put_there (λ u. words u RQ / 4) t (words t RQ / 4 + 1) t refl)) made.possible)
  ways_by (step.SetBusy c t queue) r w h noted writes made =
      as_made traces s w (put_at words t BUSY writes.0) r (SetBusy t c (words t BUSY / 2)) writes.1 noted
      (ways_beside words traces s ways t BUSY writes.0 (SetBusy t c (words t BUSY / 2)) (λ e. omega (arith, e)) (λ u way. way) refl)
  ways_by (step.ClearBusy t) r w h noted writes made =
      as_made traces s w (put_at words t BUSY writes.0) r (ClearedBusy t (words t BUSY / 2)) writes.1 noted
      (ways_beside words traces s ways t BUSY writes.0 (ClearedBusy t (words t BUSY / 2)) (λ e. omega (arith, e)) (λ u way. way) refl)
  ways_by (step.SetState t state) r w h noted writes made =
      as_made traces s w (put_at words t STATE (state.0)) r (StateSet t state) writes noted
      (ways_beside words traces s ways t STATE (state.0) (StateSet t state) (λ e. omega (arith, e)) (λ u way. way) refl)
  ways_by (step.ClaimTask t) r w h noted writes made =
      as_made traces s w (put_at words t STATE 0x200) r (Claimed t (words t RQ / 4)) writes noted
      (claim_ways words traces s ways shape homes moving core t (words t RQ / 4) off made.possible)
  ways_by (step.MakeRunnable t) r w h noted writes made =
      as_made traces s w (put_at words t STATE (0)) r (MadeRunnable t) writes noted
      (ways_beside words traces s ways t STATE (0) (MadeRunnable t) (λ e. omega (arith, e)) (λ u way. way) refl)
  ways_by (step.LoadState t mask) r w h noted writes made =
      as_made traces s w words r (LoadedState t mask (record { 0 = words t STATE })) writes noted (ways_still words traces s ways (LoadedState t mask (record { 0 = words t STATE }))
      (λ u way. way) refl)
  ways_by (step.LoadRq t) r w h noted writes made =
      as_made traces s w words r (LoadedRq t (words t RQ % 4) (words t RQ / 4)) writes noted (load_rq_ways words traces s ways t (words t RQ % 4))
  ways_by (step.LoadBusy t) r w h noted writes made =
      as_made traces s w words r (LoadedBusy t (is_set (words t BUSY)) (words t BUSY / 2)) writes noted (ways_still words traces s ways (LoadedBusy t (is_set (words t BUSY)) (words t BUSY / 2))
      (λ u way. way) refl)
  ways_by (step.LoadCpu t) r w h noted writes made =
      as_made traces s w words r (LoadedCpu t (words t CPU)) writes noted (ways_still words traces s ways (LoadedCpu t (words t CPU)) (λ u way. way) refl)
  ways_by (step.LoadCount t) r w h noted writes made =
      as_made traces s w words r (LoadedCount t (words t COUNT)) writes noted (ways_still words traces s ways (LoadedCount t (words t COUNT)) (λ u way. way) refl)
  ways_by (step.StoreCpu t c) r w h noted writes made =
      as_made traces s w (put_at words t CPU (c)) r (StoredCpu t c) writes noted
      (ways_beside words traces s ways t CPU (c) (StoredCpu t c) (λ e. omega (arith, e)) (λ u way. way) refl)
  ways_by (step.Bump k) r w h noted writes made =
      as_made traces s w (put_at words k COND ((words k COND + 1) % 2 ^ 64)) r (Bumped k (words k COND)) writes noted
      (ways_beside words traces s ways k COND ((words k COND + 1) % 2 ^ 64) (Bumped k (words k COND)) (λ e. omega (arith, e)) (λ u way. way) refl)
  ways_by (step.LoadCond k) r w h noted writes made =
      as_made traces s w words r (LoadedCond k (words k COND)) writes noted (ways_still words traces s ways (LoadedCond k (words k COND)) (λ u way. way) refl)

pub ways_event : (shape : Shape) (words : ℕ → ℕ → ℕ) (homes : Homes) (traces : ℕ → List Rec) (s : ℕ) (r : Rec)
    (words' : ℕ → ℕ → ℕ) (homes' : Homes) → IsEvent shape words homes traces s r words' homes'
    → Holds (core_of shape words homes traces) → MovingHolds words traces → OffHolds words traces → WaysHold words traces
    → WaysHold words' (put traces s (r ∷ traces s))
ways_event shape words homes traces s r words' homes' event core moving off ways =
    ways_by shape words homes traces s core moving off ways event.kind r words' homes' event.noted event.writes event.event
