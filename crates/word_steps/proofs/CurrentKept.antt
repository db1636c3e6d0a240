-- A current task that its seat hasn't taken off its queue is queued: kept by each kind of step.
use Rattle.std.proofs.Common.{◌≡◌, ◌≢◌, ℕ, ◌<◌, inl, inr, sym, ap, subst, ◌∙◌, List, [], ◌∷◌, arith}
use Rattle.std.specs.Prelude.{◌+◌, ◌%◌, Bool, true, false, Option, Some, None, if◌then◌else◌}
use Rattle.std.proofs.lemmas.Bool.{cases_eq}
use Rattle.core_data.specs.Columns.{put, put_at}
use Rattle.core_data.specs.Queue.{Queue}
use Rattle.core_gives.specs.Queues.{gives_up}
use Rattle.core_invariant.specs.Invariant.{Holds}
use Rattle.core_kinds.specs.Running.{MayDequeue, MayMove, MaySetBusy}
use Rattle.core_kinds.specs.Waking.{MaySetState, IsSettable}
use Rattle.handoff_data.specs.declared.shape.Shape.{Shape}
use Rattle.handoff_data.specs.declared.state.State.{State}
use Rattle.word_steps.proofs.Puts.{word_here, word_apart, word_beside, fold_here, fold_else}
use Rattle.word_steps.specs.TraceFacts.{CurrentHolds}
use Rattle.word_steps.specs.Decode.{Homes, core_of}
use Rattle.word_steps.specs.Folds.{current_task, stays_queued}
use Rattle.word_steps.specs.Records.{Rec, Gave, Queued, Dequeued, Moved, SetBusy}
use Rattle.word_steps.specs.Words.{RQ, BUSY}
use Rattle.word_steps.specs.declared.val.Val.TheVariants as val

pub current_start : (words : ℕ → ℕ → ℕ) → CurrentHolds words (λ s. [])
current_start words s t e stays = absurd (grind (arith, stays))

pub same_task : (t u : ℕ) → ◌≡◌ {A = Option ℕ} (Some t) (Some u) → t ≡ u
same_task t u e = grind (arith, e)

pub unless : (b : Bool) (h : Option ℕ) (t : ℕ) → (if b then None else h) ≡ Some t → h ≡ Some t
unless true h t e = absurd (grind (arith, e))
unless false h t e = e

module _ (words : ℕ → ℕ → ℕ) (traces : ℕ → List Rec) (s : ℕ) (holds : CurrentHolds words traces) where
  -- a step that makes no task current
  pub current_step : (words' : ℕ → ℕ → ℕ) (r : Rec)
      → ((j t : ℕ) → current_task j (r ∷ traces s) ≡ Some t → current_task j (traces s) ≡ Some t)
      → (stays_queued (r ∷ traces s) ≡ true → stays_queued (traces s) ≡ true)
      → ((j t : ℕ) → current_task j (traces j) ≡ Some t → (j ≡ s → stays_queued (r ∷ traces s) ≡ true) → words t RQ % 4 ≡ 1 → words' t RQ % 4 ≡ 1)
      → CurrentHolds words' (put traces s (r ∷ traces s))
  current_step words' r current stays rq j t is on = elim (cases_eq j s) [
    | inl e ↦ mine e
    | inr ne ↦ let is' = sym (fold_else (current_task j) traces s r j ne) ∙ is in
        rq j t is' (λ e. absurd (ne e)) (holds j t is' (sym (fold_else stays_queued traces s r j ne) ∙ on))
  ]
    where
      mine : j ≡ s → words' t RQ % 4 ≡ 1
      mine e =
          let here = sym (fold_here stays_queued traces s r j e) ∙ on in
          let is' = ap (λ (k : ℕ). current_task j (traces k)) e ∙ current j t (sym (fold_here (current_task j) traces s r j e) ∙ is) in
          rq j t is' (λ q. here) (holds j t is' (ap (λ (k : ℕ). stays_queued (traces k)) e ∙ stays here))

  -- one that changes no queue word, and neither the current task nor whether it is queued
  pub current_quiet : (n c x : ℕ) (r : Rec) → RQ ≢ c → ((j : ℕ) → current_task j (r ∷ traces s) ≡ current_task j (traces s))
      → stays_queued (r ∷ traces s) ≡ stays_queued (traces s) → CurrentHolds (put_at words n c x) (put traces s (r ∷ traces s))
  current_quiet n c x r beside current stays =
      current_step (put_at words n c x) r (λ j t e. sym (current j) ∙ e) (λ e. sym stays ∙ e)
      (λ j t e q on. ap (λ (z : ℕ). z % 4) (word_beside words n c x t RQ beside) ∙ on)

  pub current_still : (r : Rec) → ((j : ℕ) → current_task j (r ∷ traces s) ≡ current_task j (traces s))
      → stays_queued (r ∷ traces s) ≡ stays_queued (traces s) → CurrentHolds words (put traces s (r ∷ traces s))
  current_still r current stays = current_step words r (λ j t e. sym (current j) ∙ e) (λ e. sym stays ∙ e) (λ j t e q on. on)

  pub give_queue_current : (n c x : ℕ) (taken given : Queue) → RQ ≢ c
      → CurrentHolds (put_at words n c x) (put traces s (Gave n (val.Queue taken) (val.Queue given) ∷ traces s))
  give_queue_current n c x taken given beside =
      current_step (put_at words n c x) (Gave n (val.Queue taken) (val.Queue given))
      (λ j t e. unless (gives_up j n given) (current_task j (traces s)) t e) (λ e. e)
      (λ j t e q on. ap (λ (z : ℕ). z % 4) (word_beside words n c x t RQ beside) ∙ on)

  pub queue_task_current : (c t on m x : ℕ) → x % 4 ≡ 1 → CurrentHolds (put_at words t RQ x) (put traces s (Queued t c on m ∷ traces s))
  queue_task_current c t on m x on_is =
      current_step (put_at words t RQ x) (Queued t c on m) (λ j u e. e) (λ e. e) (λ j u e q was. elim (cases_eq u t) [
        | inl same ↦ ap (λ (k : ℕ). put_at words t RQ x k RQ % 4) same ∙ ap (λ (z : ℕ). z % 4) (word_here words t RQ x) ∙ on_is
        | inr ne ↦ ap (λ (z : ℕ). z % 4) (word_apart words t RQ x u RQ ne) ∙ was
      ])

  -- the word that is there, of a task that no seat has as current
  off_current : (t x j u : ℕ) → current_task j (traces j) ≡ Some u → (u ≡ t → ⊥) → words u RQ % 4 ≡ 1 → put_at words t RQ x u RQ % 4 ≡ 1
  off_current t x j u e other was = ap (λ (z : ℕ). z % 4) (word_apart words t RQ x u RQ (λ q. other q)) ∙ was

  module _ (shape : Shape) (homes : Homes) (core : Holds (core_of shape words homes traces)) where
    pub dequeue_task_current : (c t m x : ℕ) → MayDequeue (core_of shape words homes traces) s c t
        → CurrentHolds (put_at words t RQ x) (put traces s (Dequeued t c m ∷ traces s))
    dequeue_task_current c t m x may =
        current_step (put_at words t RQ x) (Dequeued t c m) (λ j u e. e) (λ e. absurd (grind (arith, e)))
        (λ j u e mine was. off_current t x j u e (λ same. absurd (grind (arith, mine (theirs j u e same)))) was)
      where
        theirs : (j u : ℕ) → current_task j (traces j) ≡ Some u → u ≡ t → j ≡ s
        theirs j u e same =
            sym (core.busy.runner.current_here j t (subst (λ (k : ℕ). current_task j (traces j) ≡ Some k) same e)) ∙ core.busy.runner.current_here s t may.current

    pub move_task_current : (c t m x : ℕ) (queue : Queue) → MayMove (core_of shape words homes traces) s c t queue
        → CurrentHolds (put_at words t RQ x) (put traces s (Moved t c m ∷ traces s))
    move_task_current c t m x queue may =
        current_step (put_at words t RQ x) (Moved t c m) (λ j u e. e) (λ e. e)
        (λ j u e q was. off_current t x j u e (λ same. nobody j (subst (λ (k : ℕ). current_task j (traces j) ≡ Some k) same e)) was)
      where
        nobody : (j : ℕ) → current_task j (traces j) ≡ Some t → ⊥
        nobody j e = elim (core.positions.idle.read s c t may.locked may.idle may.queued may.here) [
          | inl clear ↦ absurd (grind (arith, clear, core.busy.runner.current_busy j t e))
          | inr own ↦ may.other own
        ]

    pub set_busy_current : (c t n x : ℕ) (queue : Queue) → MaySetBusy (core_of shape words homes traces) s c t queue
        → CurrentHolds (put_at words t BUSY x) (put traces s (SetBusy t c n ∷ traces s))
    set_busy_current c t n x queue may j u is on = ap (λ (z : ℕ). z % 4) (word_beside words t BUSY x u RQ (λ q. omega (arith, q))) ∙ elim (cases_eq j s) [
      | inl e ↦ picked (sym (fold_here (current_task j) traces s (SetBusy t c n) j e) ∙ is)
      | inr ne ↦ holds j u (sym (fold_else (current_task j) traces s (SetBusy t c n) j ne) ∙ is) (sym (fold_else stays_queued traces s (SetBusy t c n) j ne) ∙ on)
    ]
      where
        picked : ◌≡◌ {A = Option ℕ} (Some t) (Some u) → words u RQ % 4 ≡ 1
        picked e = subst (λ (k : ℕ). words k RQ % 4 ≡ 1) (same_task t u e) may.queued

    -- the current task may store its state, but for its death, while it is queued
    pub set_state_may : (t : ℕ) (state : State) → s < shape.cpus + shape.agents → t < shape.tasks → current_task s (traces s) ≡ Some t → stays_queued (traces s) ≡ true
        → IsSettable (core_of shape words homes traces) s t state → MaySetState (core_of shape words homes traces) s t state
    set_state_may t state seat task current stays allowed = record { seat = seat; task = task; current = current; queued = holds s t current stays; allowed = allowed }
