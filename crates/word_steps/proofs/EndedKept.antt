-- The body of a current task has ended as its seat knows: kept by each kind of step, and what it allows.
use Rattle.std.proofs.Common.{◌≡◌, ◌≢◌, ℕ, ◌<◌, inl, inr, refl, sym, ap, subst, ◌∙◌, List, [], ◌∷◌, arith}
use Rattle.std.specs.Prelude.{◌+◌, Bool, true, Option, Some, None}
use Rattle.std.proofs.lemmas.Bool.{cases_eq}
use Rattle.core_data.specs.Columns.{put, put_at}
use Rattle.core_data.specs.Queue.{Queue}
use Rattle.core_gives.specs.Queues.{gives_up}
use Rattle.core_invariant.specs.Invariant.{Holds}
use Rattle.core_kinds.specs.Running.{MayBodyHome}
use Rattle.core_kinds.specs.Steps.{dead}
use Rattle.core_kinds.specs.Waking.{IsSettable}
use Rattle.core_stores.proofs.Columns.{put_there, put_other}
use Rattle.handoff_data.specs.declared.shape.Shape.{Shape}
use Rattle.word_steps.proofs.CurrentKept.{same_task, unless}
use Rattle.word_steps.proofs.Puts.{word_beside, fold_here, fold_else}
use Rattle.word_steps.specs.TraceFacts.{EndedHolds, CountsZero}
use Rattle.word_steps.specs.Decode.{Homes, core_of}
use Rattle.word_steps.specs.Folds.{current_task, ended_known, body_held}
use Rattle.word_steps.specs.Records.{Rec, Gave, OutBody, HomeBody, SetBusy}
use Rattle.word_steps.specs.Words.{LOCK, COUNT, holder}
use Rattle.word_steps.specs.declared.val.Val.TheVariants as val

pub counts_put : (words : ℕ → ℕ → ℕ) (n c x : ℕ) → CountsZero words → COUNT ≢ c → CountsZero (put_at words n c x)
counts_put words n c x zeros ne t = word_beside words n c x t COUNT ne ∙ zeros t

pub ended_start : (ended : ℕ → Bool) → EndedHolds ended (λ s. [])
ended_start ended s t b e known = absurd (grind (arith, e))

same_truth : (a b : Bool) → ◌≡◌ {A = Option Bool} (Some a) (Some b) → a ≡ b
same_truth a b e = grind (arith, e)

module _ (ended : ℕ → Bool) (traces : ℕ → List Rec) (s : ℕ) (holds : EndedHolds ended traces) where
  -- a step that makes no task current, and takes no body out or home
  pub ended_step : (r : Rec) → ((j t : ℕ) → current_task j (r ∷ traces s) ≡ Some t → current_task j (traces s) ≡ Some t)
      → ended_known (r ∷ traces s) ≡ ended_known (traces s) → EndedHolds ended (put traces s (r ∷ traces s))
  ended_step r current known j t b is e = elim (cases_eq j s) [
    | inl q ↦ holds j t b
        (ap (λ (k : ℕ). current_task j (traces k)) q ∙ current j t (sym (fold_here (current_task j) traces s r j q) ∙ is))
        (ap (λ (f : ℕ → Option Bool). f t) (ap (λ (k : ℕ). ended_known (traces k)) q ∙ sym known ∙ sym (fold_here ended_known traces s r j q)) ∙ e)
    | inr ne ↦ holds j t b (sym (fold_else (current_task j) traces s r j ne) ∙ is) (ap (λ (f : ℕ → Option Bool). f t) (sym (fold_else ended_known traces s r j ne)) ∙ e)
  ]

  pub ended_still : (r : Rec) → ((j : ℕ) → current_task j (r ∷ traces s) ≡ current_task j (traces s))
      → ended_known (r ∷ traces s) ≡ ended_known (traces s) → EndedHolds ended (put traces s (r ∷ traces s))
  ended_still r current known = ended_step r (λ j t e. sym (current j) ∙ e) known

  pub give_queue_ended : (n : ℕ) (taken given : Queue) → EndedHolds ended (put traces s (Gave n (val.Queue taken) (val.Queue given) ∷ traces s))
  give_queue_ended n taken given = ended_step (Gave n (val.Queue taken) (val.Queue given)) (λ j t e. unless (gives_up j n given) (current_task j (traces s)) t e) refl

  pub set_busy_ended : (t c n : ℕ) → EndedHolds ended (put traces s (SetBusy t c n ∷ traces s))
  set_busy_ended t c n j u b is e = elim (cases_eq j s) [
    | inl q ↦ absurd (grind (
      arith,
      sym (put_there (ended_known (traces s)) t None u (sym (same_task t u (sym (fold_here (current_task j) traces s (SetBusy t c n) j q) ∙ is))))
          ∙ ap (λ (f : ℕ → Option Bool). f u) (sym (fold_here ended_known traces s (SetBusy t c n) j q)) ∙ e,
    ))
    | inr ne ↦ holds j u b (sym (fold_else (current_task j) traces s (SetBusy t c n) j ne) ∙ is)
        (ap (λ (f : ℕ → Option Bool). f u) (sym (fold_else ended_known traces s (SetBusy t c n) j ne)) ∙ e)
  ]

  pub body_out_ended : (t : ℕ) (now : Bool) → ended t ≡ now → EndedHolds ended (put traces s (OutBody t now ∷ traces s))
  body_out_ended t now found j u b is e = elim (cases_eq j s) [
    | inl q ↦ elim (cases_eq u t) [
      | inl same ↦ ap ended same ∙ found ∙ same_truth now b (sym (put_there (ended_known (traces s)) t (Some now) u same) ∙ told q)
      | inr apart ↦ holds j u b (was q) (ap (λ (k : ℕ). ended_known (traces k) u) q ∙ sym (put_other (ended_known (traces s)) t (Some now) u apart) ∙ told q)
    ]
    | inr ne ↦ holds j u b (sym (fold_else (current_task j) traces s (OutBody t now) j ne) ∙ is)
        (ap (λ (f : ℕ → Option Bool). f u) (sym (fold_else ended_known traces s (OutBody t now) j ne)) ∙ e)
  ]
    where
      told : j ≡ s → ended_known (OutBody t now ∷ traces s) u ≡ Some b
      told q = ap (λ (f : ℕ → Option Bool). f u) (sym (fold_here ended_known traces s (OutBody t now) j q)) ∙ e

      was : j ≡ s → current_task j (traces j) ≡ Some u
      was q = ap (λ (k : ℕ). current_task j (traces k)) q ∙ sym (fold_here (current_task j) traces s (OutBody t now) j q) ∙ is

module _ (shape : Shape) (words : ℕ → ℕ → ℕ) (homes : Homes) (traces : ℕ → List Rec) (s : ℕ) (core : Holds (core_of shape words homes traces)) (holds : EndedHolds homes.ended traces) where
  pub body_home_ended : (t : ℕ) (now : Bool) → MayBodyHome (core_of shape words homes traces) s t now
      → EndedHolds (put homes.ended t now) (put traces s (HomeBody t now ∷ traces s))
  body_home_ended t now may j u b is e = elim (cases_eq j s) [
    | inl q ↦ elim (cases_eq u t) [
      | inl same ↦ put_there homes.ended t now u same ∙ same_truth now b (sym (put_there (ended_known (traces s)) t (Some now) u same) ∙ told q)
      | inr apart ↦ put_other homes.ended t now u apart
          ∙ holds j u b (was q) (ap (λ (k : ℕ). ended_known (traces k) u) q ∙ sym (put_other (ended_known (traces s)) t (Some now) u apart) ∙ told q)
    ]
    | inr ne ↦ theirs ne (sym (fold_else (current_task j) traces s (HomeBody t now) j ne) ∙ is)
  ]
    where
      told : j ≡ s → ended_known (HomeBody t now ∷ traces s) u ≡ Some b
      told q = ap (λ (f : ℕ → Option Bool). f u) (sym (fold_here ended_known traces s (HomeBody t now) j q)) ∙ e

      was : j ≡ s → current_task j (traces j) ≡ Some u
      was q = ap (λ (k : ℕ). current_task j (traces k)) q ∙ sym (fold_here (current_task j) traces s (HomeBody t now) j q) ∙ is

      theirs : j ≢ s → current_task j (traces j) ≡ Some u → put homes.ended t now u ≡ b
      theirs ne is' =
          put_other homes.ended t now u (λ same. ne (sym (core.busy.runner.current_here j t (subst (λ (k : ℕ). current_task j (traces j) ≡ Some k) same is'))
          ∙ core.busy.runner.current_here s t may.current))
          ∙ holds j u b is' (ap (λ (f : ℕ → Option Bool). f u) (sym (fold_else ended_known traces s (HomeBody t now) j ne)) ∙ e)

  -- a body that the seat has out may go home, but not as one that goes on where it had ended
  pub body_home_may : (t : ℕ) (was now : Bool) → s < shape.cpus + shape.agents → t < shape.tasks → body_held (traces s) ≡ Some t → ended_known (traces s) t ≡ Some was
      → (was ≡ true → now ≡ true) → MayBodyHome (core_of shape words homes traces) s t now
  body_home_may t was now seat task out known stays =
      let current = core.busy.bodies.out_current s t out in
      record { seat = seat; task = task; current = current; out = out; stays = λ e. stays (sym (holds s t was current known) ∙ e) }

  -- the current task may die under its own lock where its body has ended
  pub dead_allowed : (t : ℕ) → holder (words t LOCK) ≡ Some s → current_task s (traces s) ≡ Some t → ended_known (traces s) t ≡ Some true
      → IsSettable (core_of shape words homes traces) s t dead
  dead_allowed t locked current known = inr (inr (refl, locked, holds s t true current known))
