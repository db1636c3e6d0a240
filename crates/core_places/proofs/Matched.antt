-- What holds of tasks whose state was read as matching, step by step.
use Rattle.std.proofs.Common.{◌≡◌, ◌≢◌, ℕ, ◌+◌, ◌⊎◌, inl, inr, Bool, true, Option, Some, None, sym, ap, ◌∙◌, subst, arith}
use Rattle.std.proofs.lemmas.Bool.{cases_eq}
use Rattle.core_data.specs.Columns.{put}
use Rattle.core_invariant.proofs.Puts.{put_here, put_there}
use Rattle.core_invariant.specs.Positions.{MatchedTasks}
use Rattle.core_kinds.specs.Steps.{dead, is_sleep}
use Rattle.core_places.proofs.Marks.{mark, renew, marked, mark_keeps, renewed, renewed_other, renewed_both, lock_taken, lock_given}
use Rattle.handoff_data.specs.declared.state.State.{State}

-- a task that may be woken: it is queued, or asleep off its queue
pub record Meets (state : ℕ → State) (on_rq changes : ℕ → ℕ) (t : ℕ) : Type 0 where
  pub started : changes t ≢ 0
  pub alive : state t ≢ dead
  pub stands : (on_rq t ≡ 1) ⊎ ((on_rq t ≡ 0) × (is_sleep (state t) ≡ true))

meets : (state : ℕ → State) (on_rq changes : ℕ → ℕ) (lock : ℕ → Option ℕ) (unstored saw_off : ℕ → ℕ → Bool) (k u : ℕ) → MatchedTasks state on_rq changes lock unstored saw_off
    → lock u ≡ Some k → unstored k u ≡ true → Meets state on_rq changes u
meets state on_rq changes lock unstored saw_off k u p l h = record { started = p.started k u l h; alive = p.alive k u l h; stands = p.stands k u l h }

of_meets : (state : ℕ → State) (on_rq changes : ℕ → ℕ) (lock : ℕ → Option ℕ) (unstored saw_off : ℕ → ℕ → Bool)
    → ((k u : ℕ) → lock u ≡ Some k → unstored k u ≡ true → Meets state on_rq changes u)
    → ((k u : ℕ) → saw_off k u ≡ true → unstored k u ≡ true)
    → ((k u : ℕ) → lock u ≡ Some k → saw_off k u ≡ true → on_rq u ≡ 0)
    → MatchedTasks state on_rq changes lock unstored saw_off
of_meets state on_rq changes lock unstored saw_off m saw off =
    record {
      started = λ k u l h. (m k u l h).started;
      alive = λ k u l h. (m k u l h).alive;
      stands = λ k u l h. (m k u l h).stands;
      saw_after = saw;
      off = off;
    }

pub MatchedTasks-take : (state : ℕ → State) (on_rq changes : ℕ → ℕ) (lock : ℕ → Option ℕ) (unstored saw_off : ℕ → ℕ → Bool) (s t : ℕ) → MatchedTasks state on_rq changes lock unstored saw_off
    → MatchedTasks state on_rq changes (put lock t (Some s)) (renew unstored s t) (renew saw_off s t)
MatchedTasks-take state on_rq changes lock unstored saw_off s t p =
    of_meets state on_rq changes (put lock t (Some s)) (renew unstored s t) (renew saw_off s t)
    (λ k u l h. elim (lock_taken lock s t k u l) [
      | inl a ↦ meets state on_rq changes lock unstored saw_off k u p a (renewed unstored s t k u h)
      | inr a ↦ absurd (renewed_other unstored s t k u h a.1 a.0)
    ])
    (λ k u h. renewed_both saw_off unstored s t k u h (p.saw_after k u (renewed saw_off s t k u h)))
    (λ k u l h. elim (lock_taken lock s t k u l) [
      | inl a ↦ p.off k u a (renewed saw_off s t k u h)
      | inr a ↦ absurd (renewed_other saw_off s t k u h a.1 a.0)
    ])

pub MatchedTasks-give : (state : ℕ → State) (on_rq changes : ℕ → ℕ) (lock : ℕ → Option ℕ) (unstored saw_off : ℕ → ℕ → Bool) (t : ℕ) → MatchedTasks state on_rq changes lock unstored saw_off
    → MatchedTasks state on_rq changes (put lock t None) unstored saw_off
MatchedTasks-give state on_rq changes lock unstored saw_off t p =
    of_meets state on_rq changes (put lock t None) unstored saw_off
    (λ k u l h. meets state on_rq changes lock unstored saw_off k u p (lock_given lock t k u l) h)
    p.saw_after
    (λ k u l h. p.off k u (lock_given lock t k u l) h)

-- a seat stores another word of a task
pub MatchedTasks-stored : (state : ℕ → State) (on_rq changes : ℕ → ℕ) (lock : ℕ → Option ℕ) (unstored saw_off : ℕ → ℕ → Bool) (s t : ℕ) → MatchedTasks state on_rq changes lock unstored saw_off
    → MatchedTasks state on_rq changes lock (renew unstored s t) (renew saw_off s t)
MatchedTasks-stored state on_rq changes lock unstored saw_off s t p =
    of_meets state on_rq changes lock (renew unstored s t) (renew saw_off s t)
    (λ k u l h. meets state on_rq changes lock unstored saw_off k u p l (renewed unstored s t k u h))
    (λ k u h. renewed_both saw_off unstored s t k u h (p.saw_after k u (renewed saw_off s t k u h)))
    (λ k u l h. p.off k u l (renewed saw_off s t k u h))

-- its `on_rq` word is stored by the seat that has its lock, or as 0 while it may be asleep
pub MatchedTasks-change : (state : ℕ → State) (on_rq changes : ℕ → ℕ) (lock : ℕ → Option ℕ) (unstored saw_off : ℕ → ℕ → Bool) (s t v : ℕ) → MatchedTasks state on_rq changes lock unstored saw_off
    → (lock t ≡ Some s) ⊎ ((v ≡ 0) × ((is_sleep (state t) ≡ true) ⊎ (state t ≡ dead)))
    → MatchedTasks state (put on_rq t v) (put changes t (changes t + 1)) lock (renew unstored s t) (renew saw_off s t)
MatchedTasks-change state on_rq changes lock unstored saw_off s t v p by =
    of_meets state (put on_rq t v) (put changes t (changes t + 1)) lock (renew unstored s t) (renew saw_off s t)
    (λ k u l h. elim (cases_eq u t) [
      | inl q ↦ here k u l h q
      | inr q ↦ let m = meets state on_rq changes lock unstored saw_off k u p l (renewed unstored s t k u h) in
          record {
            started = λ z. m.started (sym (put_there changes t (changes t + 1) u q) ∙ z);
            alive = m.alive;
            stands = subst (λ z. (z ≡ 1) ⊎ ((z ≡ 0) × (is_sleep (state u) ≡ true))) (sym (put_there on_rq t v u q)) m.stands;
          }
    ])
    (λ k u h. renewed_both saw_off unstored s t k u h (p.saw_after k u (renewed saw_off s t k u h)))
    (λ k u l h. elim (cases_eq u t) [
      | inl q ↦ elim by [
        | inl locked ↦ absurd (renewed_other saw_off s t k u h q (owner k u l q locked))
        | inr off ↦ put_here on_rq t v u q ∙ off.0
      ]
      | inr q ↦ put_there on_rq t v u q ∙ p.off k u l (renewed saw_off s t k u h)
    ])
  where
    owner : (k u : ℕ) → lock u ≡ Some k → u ≡ t → lock t ≡ Some s → k ≡ s
    owner k u l q locked = grind (arith, l, ap lock q, locked)

    here : (k u : ℕ) → lock u ≡ Some k → renew unstored s t k u ≡ true → u ≡ t → Meets state (put on_rq t v) (put changes t (changes t + 1)) u
    here k u l h q =
        elim by [
          | inl locked ↦ absurd (renewed_other unstored s t k u h q (owner k u l q locked))
          | inr off ↦ let m = meets state on_rq changes lock unstored saw_off k u p l (renewed unstored s t k u h) in
              record {
                started = λ z. grind (arith, put_here changes t (changes t + 1) u q, z);
                alive = m.alive;
                stands = inr (put_here on_rq t v u q ∙ off.0, elim off.1 [ inl a ↦ ap (λ z. is_sleep (state z)) q ∙ a | inr a ↦ absurd (m.alive (ap state q ∙ a)) ]);
              }
        ]

-- its state is stored by the seat that has its lock, or while it is queued
pub MatchedTasks-state : (state : ℕ → State) (on_rq changes : ℕ → ℕ) (lock : ℕ → Option ℕ) (unstored saw_off : ℕ → ℕ → Bool) (s t : ℕ) (x : State)
    → MatchedTasks state on_rq changes lock unstored saw_off
    → (lock t ≡ Some s) ⊎ ((on_rq t ≡ 1) × (x ≢ dead))
    → MatchedTasks (put state t x) on_rq changes lock (renew unstored s t) (renew saw_off s t)
MatchedTasks-state state on_rq changes lock unstored saw_off s t x p by =
    of_meets (put state t x) on_rq changes lock (renew unstored s t) (renew saw_off s t)
    (λ k u l h. let m = meets state on_rq changes lock unstored saw_off k u p l (renewed unstored s t k u h) in elim (cases_eq u t) [
      | inl q ↦ elim by [
        | inl locked ↦ absurd (renewed_other unstored s t k u h q (grind (arith, l, ap lock q, locked)))
        | inr b ↦ record { started = m.started; alive = λ z. b.1 (sym (put_here state t x u q) ∙ z); stands = inl (ap on_rq q ∙ b.0) }
      ]
      | inr q ↦ record {
        started = m.started;
        alive = λ z. m.alive (sym (put_there state t x u q) ∙ z);
        stands = subst (λ z. (on_rq u ≡ 1) ⊎ ((on_rq u ≡ 0) × (is_sleep z ≡ true))) (sym (put_there state t x u q)) m.stands;
      }
    ])
    (λ k u h. renewed_both saw_off unstored s t k u h (p.saw_after k u (renewed saw_off s t k u h)))
    (λ k u l h. p.off k u l (renewed saw_off s t k u h))

-- a state is read that matches
pub MatchedTasks-matched : (state : ℕ → State) (on_rq changes : ℕ → ℕ) (lock : ℕ → Option ℕ) (unstored saw_off : ℕ → ℕ → Bool) (s t : ℕ) → MatchedTasks state on_rq changes lock unstored saw_off
    → Meets state on_rq changes t
    → MatchedTasks state on_rq changes lock (mark unstored s t) saw_off
MatchedTasks-matched state on_rq changes lock unstored saw_off s t p m =
    of_meets state on_rq changes lock (mark unstored s t) saw_off
    (λ k u l h. elim (marked unstored s t k u h) [
      | inl a ↦ meets state on_rq changes lock unstored saw_off k u p l a
      | inr a ↦ subst (Meets state on_rq changes) (sym a.1) m
    ])
    (λ k u h. mark_keeps unstored s t k u (p.saw_after k u h))
    p.off

pub MatchedTasks-saw_off : (state : ℕ → State) (on_rq changes : ℕ → ℕ) (lock : ℕ → Option ℕ) (unstored saw_off : ℕ → ℕ → Bool) (s t : ℕ) → MatchedTasks state on_rq changes lock unstored saw_off
    → unstored s t ≡ true → on_rq t ≡ 0
    → MatchedTasks state on_rq changes lock unstored (mark saw_off s t)
MatchedTasks-saw_off state on_rq changes lock unstored saw_off s t p kept off =
    of_meets state on_rq changes lock unstored (mark saw_off s t)
    (λ k u l h. meets state on_rq changes lock unstored saw_off k u p l h)
    (λ k u h. elim (marked saw_off s t k u h) [ inl a ↦ p.saw_after k u a | inr a ↦ subst (λ z. unstored z u ≡ true) (sym a.0) (subst (λ z. unstored s z ≡ true) (sym a.1) kept) ])
    (λ k u l h. elim (marked saw_off s t k u h) [ inl a ↦ p.off k u l a | inr a ↦ ap on_rq a.1 ∙ off ])
