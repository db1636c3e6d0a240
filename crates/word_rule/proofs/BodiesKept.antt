-- A seat knows whether the body that it has out had ended: kept by each kind of step.
use Rattle.std.proofs.Common.{◌≡◌, ℕ, inl, inr, refl, sym, subst, ◌∙◌, List, [], ◌∷◌, arith}
use Rattle.std.specs.Prelude.{Bool, Option, Some, IsSome}
use Rattle.std.proofs.lemmas.Bool.{cases_eq}
use Rattle.core_data.specs.Columns.{put}
use Rattle.core_stores.proofs.Columns.{put_there}
use Rattle.word_rule.specs.Bodies.{BodiesKnown}
use Rattle.word_steps.proofs.Puts.{fold_here, fold_else}
use Rattle.word_steps.specs.Folds.{body_held, ended_known}
use Rattle.word_steps.specs.Records.{Rec, OutBody, HomeBody, SetBusy}

pub known_start : BodiesKnown (λ s. [])
known_start s t e = absurd (grind (arith, e))

same_task : (t u : ℕ) → ◌≡◌ {A = Option ℕ} (Some t) (Some u) → t ≡ u
same_task t u e = grind (arith, e)

module _ (traces : ℕ → List Rec) (s : ℕ) (holds : BodiesKnown traces) where
  known_step : (r : Rec) → ((t : ℕ) → body_held (r ∷ traces s) ≡ Some t → IsSome (ended_known (r ∷ traces s) t))
      → BodiesKnown (put traces s (r ∷ traces s))
  known_step r mine j t e = elim (cases_eq j s) [
    | inl q ↦ subst (λ (f : ℕ → Option Bool). IsSome (f t)) (sym (fold_here ended_known traces s r j q))
        (mine t (sym (fold_here body_held traces s r j q) ∙ e))
    | inr ne ↦ subst (λ (f : ℕ → Option Bool). IsSome (f t)) (sym (fold_else ended_known traces s r j ne))
        (holds j t (sym (fold_else body_held traces s r j ne) ∙ e))
  ]

  -- a step that takes no body out or home, and makes no task current
  pub known_still : (r : Rec) → body_held (r ∷ traces s) ≡ body_held (traces s)
      → ended_known (r ∷ traces s) ≡ ended_known (traces s) → BodiesKnown (put traces s (r ∷ traces s))
  known_still r same ended =
      known_step r (λ t e. subst (λ (f : ℕ → Option Bool). IsSome (f t)) (sym ended) (holds s t (sym same ∙ e)))

  -- a seat that makes a task current has no body out
  pub set_busy_known : (t c n : ℕ) → ((u : ℕ) → body_held (traces s) ≡ Some u → ⊥)
      → BodiesKnown (put traces s (SetBusy t c n ∷ traces s))
  set_busy_known t c n none = known_step (SetBusy t c n) (λ u e. absurd (none u e))

  pub body_out_known : (t : ℕ) (now : Bool) → BodiesKnown (put traces s (OutBody t now ∷ traces s))
  body_out_known t now =
      known_step (OutBody t now) (λ u e. subst (λ (o : Option Bool). IsSome o)
      (sym (put_there (ended_known (traces s)) t (Some now) u (sym (same_task t u e)))) refl)

  pub body_home_known : (t : ℕ) (now : Bool) → BodiesKnown (put traces s (HomeBody t now ∷ traces s))
  body_home_known t now = known_step (HomeBody t now) (λ u e. absurd (grind (arith, e)))
