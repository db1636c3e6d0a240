-- What holds of tasks that were read as resting, step by step.
use Rattle.std.proofs.Common.{◌≡◌, ◌≢◌, ℕ, ◌⊎◌, inl, inr, Bool, true, false, Option, Some, None, sym, ap, ◌∙◌, arith}
use Rattle.std.proofs.lemmas.Bool.{cases_eq}
use Rattle.std.proofs.lemmas.Bool.Decides.{nat_tests}
use Rattle.core_data.specs.Columns.{put}
use Rattle.core_invariant.proofs.Puts.{put_here, put_there}
use Rattle.core_invariant.specs.Positions.{RestingTasks}
use Rattle.core_kinds.specs.Steps.{waking}
use Rattle.core_places.proofs.Marks.{mark, renew, marked, mark_keeps, renewed, renewed_other, renewed_both, lock_taken, lock_given}
use Rattle.handoff_data.specs.declared.state.State.{State}

-- what is known of a task with a lock of its own, as the seat that has it forgets what it read of another
forgets : (state : ℕ → State) (on_rq : ℕ → ℕ) (on_cpu : ℕ → Bool) (lock : ℕ → Option ℕ) (rest_state rest_off rest_idle : ℕ → ℕ → Bool)
    (next_state : ℕ → State) (next_rq : ℕ → ℕ) (next_cpu : ℕ → Bool) (next_lock : ℕ → Option ℕ) (s t : ℕ) → RestingTasks state on_rq on_cpu lock rest_state rest_off rest_idle
    → ((k u : ℕ) → next_lock u ≡ Some k → (u ≡ t → k ≢ s) → lock u ≡ Some k)
    → ((k u : ℕ) → next_lock u ≡ Some k → (u ≡ t → k ≢ s) → state u ≢ waking → next_state u ≢ waking)
    → ((k u : ℕ) → next_lock u ≡ Some k → (u ≡ t → k ≢ s) → on_rq u ≡ 0 → next_rq u ≡ 0)
    → ((k u : ℕ) → next_lock u ≡ Some k → (u ≡ t → k ≢ s) → on_rq u ≡ 0 → on_cpu u ≡ false → next_cpu u ≡ false)
    → RestingTasks next_state next_rq next_cpu next_lock (renew rest_state s t) (renew rest_off s t) (renew rest_idle s t)
forgets state on_rq on_cpu lock rest_state rest_off rest_idle next_state next_rq next_cpu next_lock s t p locks states rqs cpus =
    record {
      rests = λ k u l h. let o = renewed_other rest_state s t k u h in states k u l o (p.rests k u (locks k u l o) (renewed rest_state s t k u h));
      off_after = λ k u h. renewed_both rest_off rest_state s t k u h (p.off_after k u (renewed rest_off s t k u h));
      off = λ k u l h. let o = renewed_other rest_off s t k u h in rqs k u l o (p.off k u (locks k u l o) (renewed rest_off s t k u h));
      idle_after = λ k u h. renewed_both rest_idle rest_off s t k u h (p.idle_after k u (renewed rest_idle s t k u h));
      idle = λ k u l h.
          let o = renewed_other rest_idle s t k u h in
          let i = renewed rest_idle s t k u h in
          cpus k u l o (p.off k u (locks k u l o) (p.idle_after k u i)) (p.idle k u (locks k u l o) i);
    }

pub RestingTasks-take : (state : ℕ → State) (on_rq : ℕ → ℕ) (on_cpu : ℕ → Bool) (lock : ℕ → Option ℕ) (rest_state rest_off rest_idle : ℕ → ℕ → Bool) (s t : ℕ)
    → RestingTasks state on_rq on_cpu lock rest_state rest_off rest_idle
    → RestingTasks state on_rq on_cpu (put lock t (Some s)) (renew rest_state s t) (renew rest_off s t) (renew rest_idle s t)
RestingTasks-take state on_rq on_cpu lock rest_state rest_off rest_idle s t p =
    forgets state on_rq on_cpu lock rest_state rest_off rest_idle state on_rq on_cpu (put lock t (Some s)) s t p
    (λ k u l o. elim (lock_taken lock s t k u l) [ inl a ↦ a | inr a ↦ absurd (o a.1 a.0) ]) (λ k u l o h. h) (λ k u l o h. h) (λ k u l o h i. i)

pub RestingTasks-give : (state : ℕ → State) (on_rq : ℕ → ℕ) (on_cpu : ℕ → Bool) (lock : ℕ → Option ℕ) (rest_state rest_off rest_idle : ℕ → ℕ → Bool) (t : ℕ)
    → RestingTasks state on_rq on_cpu lock rest_state rest_off rest_idle
    → RestingTasks state on_rq on_cpu (put lock t None) rest_state rest_off rest_idle
RestingTasks-give state on_rq on_cpu lock rest_state rest_off rest_idle t p =
    record {
      rests = λ k u l h. p.rests k u (lock_given lock t k u l) h;
      off_after = p.off_after;
      off = λ k u l h. p.off k u (lock_given lock t k u l) h;
      idle_after = p.idle_after;
      idle = λ k u l h. p.idle k u (lock_given lock t k u l) h;
    }

-- a seat stores another word of a task
pub RestingTasks-stored : (state : ℕ → State) (on_rq : ℕ → ℕ) (on_cpu : ℕ → Bool) (lock : ℕ → Option ℕ) (rest_state rest_off rest_idle : ℕ → ℕ → Bool) (s t : ℕ)
    → RestingTasks state on_rq on_cpu lock rest_state rest_off rest_idle
    → RestingTasks state on_rq on_cpu lock (renew rest_state s t) (renew rest_off s t) (renew rest_idle s t)
RestingTasks-stored state on_rq on_cpu lock rest_state rest_off rest_idle s t p =
    forgets state on_rq on_cpu lock rest_state rest_off rest_idle state on_rq on_cpu lock s t p (λ k u l o. l) (λ k u l o h. h) (λ k u l o h. h) (λ k u l o h i. i)

-- its `on_rq` word is stored by the seat that has its lock, or as 0
pub RestingTasks-change : (state : ℕ → State) (on_rq : ℕ → ℕ) (on_cpu : ℕ → Bool) (lock : ℕ → Option ℕ) (rest_state rest_off rest_idle : ℕ → ℕ → Bool) (s t v : ℕ)
    → RestingTasks state on_rq on_cpu lock rest_state rest_off rest_idle
    → (lock t ≡ Some s) ⊎ (v ≡ 0)
    → RestingTasks state (put on_rq t v) on_cpu lock (renew rest_state s t) (renew rest_off s t) (renew rest_idle s t)
RestingTasks-change state on_rq on_cpu lock rest_state rest_off rest_idle s t v p by =
    forgets state on_rq on_cpu lock rest_state rest_off rest_idle state (put on_rq t v) on_cpu lock s t p (λ k u l o. l) (λ k u l o h. h)
    (λ k u l o h. elim (cases_eq u t) [
      | inl q ↦ elim by [ inl locked ↦ absurd (o q (grind (arith, l, ap lock q, locked))) | inr z ↦ put_here on_rq t v u q ∙ z ]
      | inr q ↦ put_there on_rq t v u q ∙ h
    ])
    (λ k u l o h i. i)

pub RestingTasks-busy : (state : ℕ → State) (on_rq : ℕ → ℕ) (on_cpu : ℕ → Bool) (lock : ℕ → Option ℕ) (rest_state rest_off rest_idle : ℕ → ℕ → Bool) (s t : ℕ)
    → RestingTasks state on_rq on_cpu lock rest_state rest_off rest_idle
    → on_rq t ≡ 1
    → RestingTasks state on_rq (put on_cpu t true) lock (renew rest_state s t) (renew rest_off s t) (renew rest_idle s t)
RestingTasks-busy state on_rq on_cpu lock rest_state rest_off rest_idle s t p queued =
    forgets state on_rq on_cpu lock rest_state rest_off rest_idle state on_rq (put on_cpu t true) lock s t p (λ k u l o. l) (λ k u l o h. h) (λ k u l o h. h)
    (λ k u l o h i. grind (arith, nat_tests, h, i, queued))

pub RestingTasks-clear : (state : ℕ → State) (on_rq : ℕ → ℕ) (on_cpu : ℕ → Bool) (lock : ℕ → Option ℕ) (rest_state rest_off rest_idle : ℕ → ℕ → Bool) (s t : ℕ)
    → RestingTasks state on_rq on_cpu lock rest_state rest_off rest_idle
    → RestingTasks state on_rq (put on_cpu t false) lock (renew rest_state s t) (renew rest_off s t) (renew rest_idle s t)
RestingTasks-clear state on_rq on_cpu lock rest_state rest_off rest_idle s t p =
    forgets state on_rq on_cpu lock rest_state rest_off rest_idle state on_rq (put on_cpu t false) lock s t p (λ k u l o. l) (λ k u l o h. h) (λ k u l o h. h)
    (λ k u l o h i. grind (arith, nat_tests, i))

-- its state is stored by the seat that has its lock, or isn't TASK_WAKING
pub RestingTasks-state : (state : ℕ → State) (on_rq : ℕ → ℕ) (on_cpu : ℕ → Bool) (lock : ℕ → Option ℕ) (rest_state rest_off rest_idle : ℕ → ℕ → Bool) (s t : ℕ) (x : State)
    → RestingTasks state on_rq on_cpu lock rest_state rest_off rest_idle
    → (lock t ≡ Some s) ⊎ (x ≢ waking)
    → RestingTasks (put state t x) on_rq on_cpu lock (renew rest_state s t) (renew rest_off s t) (renew rest_idle s t)
RestingTasks-state state on_rq on_cpu lock rest_state rest_off rest_idle s t x p by =
    forgets state on_rq on_cpu lock rest_state rest_off rest_idle (put state t x) on_rq on_cpu lock s t p (λ k u l o. l)
    (λ k u l o h. elim (cases_eq u t) [
      | inl q ↦ elim by [ inl locked ↦ absurd (o q (grind (arith, l, ap lock q, locked))) | inr z ↦ λ e. z (sym (put_here state t x u q) ∙ e) ]
      | inr q ↦ λ e. h (sym (put_there state t x u q) ∙ e)
    ])
    (λ k u l o h. h) (λ k u l o h i. i)

pub RestingTasks-state_read : (state : ℕ → State) (on_rq : ℕ → ℕ) (on_cpu : ℕ → Bool) (lock : ℕ → Option ℕ) (rest_state rest_off rest_idle : ℕ → ℕ → Bool) (s t : ℕ)
    → RestingTasks state on_rq on_cpu lock rest_state rest_off rest_idle
    → state t ≢ waking
    → RestingTasks state on_rq on_cpu lock (mark rest_state s t) rest_off rest_idle
RestingTasks-state_read state on_rq on_cpu lock rest_state rest_off rest_idle s t p rests =
    record {
      rests = λ k u l h. elim (marked rest_state s t k u h) [ inl a ↦ p.rests k u l a | inr a ↦ λ e. rests (sym (ap state a.1) ∙ e) ];
      off_after = λ k u h. mark_keeps rest_state s t k u (p.off_after k u h);
      off = p.off;
      idle_after = p.idle_after;
      idle = p.idle;
    }

known_at : (f : ℕ → ℕ → Bool) (s t k u : ℕ) → f s t ≡ true → k ≡ s → u ≡ t → f k u ≡ true
known_at f s t k u h q r = ap (λ z. f z u) q ∙ (ap (f s) r ∙ h)

pub RestingTasks-off_read : (state : ℕ → State) (on_rq : ℕ → ℕ) (on_cpu : ℕ → Bool) (lock : ℕ → Option ℕ) (rest_state rest_off rest_idle : ℕ → ℕ → Bool) (s t : ℕ)
    → RestingTasks state on_rq on_cpu lock rest_state rest_off rest_idle
    → rest_state s t ≡ true → on_rq t ≡ 0
    → RestingTasks state on_rq on_cpu lock rest_state (mark rest_off s t) rest_idle
RestingTasks-off_read state on_rq on_cpu lock rest_state rest_off rest_idle s t p known off =
    record {
      rests = p.rests;
      off_after = λ k u h. elim (marked rest_off s t k u h) [ inl a ↦ p.off_after k u a | inr a ↦ known_at rest_state s t k u known a.0 a.1 ];
      off = λ k u l h. elim (marked rest_off s t k u h) [ inl a ↦ p.off k u l a | inr a ↦ ap on_rq a.1 ∙ off ];
      idle_after = λ k u h. mark_keeps rest_off s t k u (p.idle_after k u h);
      idle = p.idle;
    }

pub RestingTasks-idle_read : (state : ℕ → State) (on_rq : ℕ → ℕ) (on_cpu : ℕ → Bool) (lock : ℕ → Option ℕ) (rest_state rest_off rest_idle : ℕ → ℕ → Bool) (s t : ℕ)
    → RestingTasks state on_rq on_cpu lock rest_state rest_off rest_idle
    → rest_off s t ≡ true → on_cpu t ≡ false
    → RestingTasks state on_rq on_cpu lock rest_state rest_off (mark rest_idle s t)
RestingTasks-idle_read state on_rq on_cpu lock rest_state rest_off rest_idle s t p known idle =
    record {
      rests = p.rests;
      off_after = p.off_after;
      off = p.off;
      idle_after = λ k u h. elim (marked rest_idle s t k u h) [ inl a ↦ p.idle_after k u a | inr a ↦ known_at rest_off s t k u known a.0 a.1 ];
      idle = λ k u l h. elim (marked rest_idle s t k u h) [ inl a ↦ p.idle k u l a | inr a ↦ ap on_cpu a.1 ∙ idle ];
    }
