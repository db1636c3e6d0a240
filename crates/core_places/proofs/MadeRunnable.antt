-- What holds of tasks that were matched under their lock, whatever was stored since, step by step.
use Rattle.std.proofs.Common.{◌≡◌, ◌≢◌, ℕ, ◌⊎◌, inl, inr, Bool, Option, Some, None, sym, ap, ◌∙◌, arith}
use Rattle.std.proofs.lemmas.Bool.{cases_eq}
use Rattle.core_data.specs.Columns.{put}
use Rattle.core_invariant.proofs.Puts.{put_here, put_there}
use Rattle.core_invariant.specs.Positions.{MadeRunnableTasks}
use Rattle.core_kinds.specs.Steps.{dead}
use Rattle.core_places.proofs.Marks.{mark, renew, marked, renewed, renewed_other, lock_taken, lock_given}
use Rattle.handoff_data.specs.declared.state.State.{State}

pub MadeRunnable-take : (state : ℕ → State) (on_rq : ℕ → ℕ) (lock current : ℕ → Option ℕ) (matched : ℕ → ℕ → Bool) (s t : ℕ) → MadeRunnableTasks state on_rq lock current matched
    → MadeRunnableTasks state on_rq (put lock t (Some s)) current (renew matched s t)
MadeRunnable-take state on_rq lock current matched s t p k u l h q other =
    elim (lock_taken lock s t k u l) [
      | inl a ↦ p k u a (renewed matched s t k u h) q other
      | inr a ↦ absurd (renewed_other matched s t k u h a.1 a.0)
    ]

pub MadeRunnable-give : (state : ℕ → State) (on_rq : ℕ → ℕ) (lock current : ℕ → Option ℕ) (matched : ℕ → ℕ → Bool) (t : ℕ) → MadeRunnableTasks state on_rq lock current matched
    → MadeRunnableTasks state on_rq (put lock t None) current matched
MadeRunnable-give state on_rq lock current matched t p k u l h q other = p k u (lock_given lock t k u l) h q other

-- its queue word is stored: it is taken off, or it isn't dead
pub MadeRunnable-change : (state : ℕ → State) (on_rq : ℕ → ℕ) (lock current : ℕ → Option ℕ) (matched : ℕ → ℕ → Bool) (t v : ℕ) → MadeRunnableTasks state on_rq lock current matched
    → (v ≢ 1) ⊎ (state t ≢ dead)
    → MadeRunnableTasks state (put on_rq t v) lock current matched
MadeRunnable-change state on_rq lock current matched t v p by k u l h q other =
    elim (cases_eq u t) [
      | inl r ↦ elim by [
        | inl off ↦ absurd (off (sym (put_here on_rq t v u r) ∙ q))
        | inr alive ↦ λ d. alive (ap state (sym r) ∙ d)
      ]
      | inr r ↦ p k u l h (sym (put_there on_rq t v u r) ∙ q) other
    ]

-- a seat with no current task picks it
pub MadeRunnable-pick : (state : ℕ → State) (on_rq : ℕ → ℕ) (lock current : ℕ → Option ℕ) (matched : ℕ → ℕ → Bool) (s t : ℕ) → MadeRunnableTasks state on_rq lock current matched → current s ≡ None
    → MadeRunnableTasks state on_rq lock (put current s (Some t)) matched
MadeRunnable-pick state on_rq lock current matched s t p none k u l h q other =
    p k u l h q (λ c. elim (cases_eq k s) [
      | inl r ↦ grind (arith, c, ap current r, none)
      | inr r ↦ other (put_there current s (Some t) k r ∙ c)
    ])

-- a seat gives up its current task, which isn't dead while it is queued
pub MadeRunnable-given_up : (state : ℕ → State) (on_rq : ℕ → ℕ) (lock current : ℕ → Option ℕ) (matched : ℕ → ℕ → Bool) (s : ℕ) → MadeRunnableTasks state on_rq lock current matched
    → ((u : ℕ) → current s ≡ Some u → on_rq u ≡ 1 → state u ≢ dead)
    → MadeRunnableTasks state on_rq lock (put current s None) matched
MadeRunnable-given_up state on_rq lock current matched s p alive k u l h q other =
    λ d. p k u l h q (λ c. elim (cases_eq k s) [
      | inl r ↦ alive u (ap current (sym r) ∙ c) q d
      | inr r ↦ other (put_there current s None k r ∙ c)
    ]) d

-- its state is stored: not as dead, or by the seat that runs it and has its lock
pub MadeRunnable-state : (state : ℕ → State) (on_rq : ℕ → ℕ) (lock current : ℕ → Option ℕ) (matched : ℕ → ℕ → Bool) (s t : ℕ) (x : State) → MadeRunnableTasks state on_rq lock current matched
    → (x ≢ dead) ⊎ ((lock t ≡ Some s) × (current s ≡ Some t))
    → MadeRunnableTasks (put state t x) on_rq lock current matched
MadeRunnable-state state on_rq lock current matched s t x p by k u l h q other =
    elim (cases_eq u t) [
      | inl r ↦ elim by [
        | inl alive ↦ λ d. alive (sym (put_here state t x u r) ∙ d)
        | inr own ↦ let same : k ≡ s = grind (arith, l, ap lock r, own.0) in absurd (other (ap current same ∙ (own.1 ∙ ap (λ z. Some z) (sym r))))
      ]
      | inr r ↦ λ d. p k u l h q other (sym (put_there state t x u r) ∙ d)
    ]

-- a state is read that matches
pub MadeRunnable-matched : (state : ℕ → State) (on_rq : ℕ → ℕ) (lock current : ℕ → Option ℕ) (matched : ℕ → ℕ → Bool) (s t : ℕ) → MadeRunnableTasks state on_rq lock current matched → state t ≢ dead
    → MadeRunnableTasks state on_rq lock current (mark matched s t)
MadeRunnable-matched state on_rq lock current matched s t p alive k u l h q other =
    elim (marked matched s t k u h) [
      | inl a ↦ p k u l a q other
      | inr a ↦ λ d. alive (ap state (sym a.1) ∙ d)
    ]
