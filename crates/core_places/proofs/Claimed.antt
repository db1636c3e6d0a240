-- What holds of claimed tasks, step by step.
use Rattle.std.proofs.Common.{◌≡◌, ◌≢◌, ℕ, ◌⊎◌, inl, inr, Bool, true, false, Option, Some, None, sym, ap, ◌∙◌, arith}
use Rattle.std.proofs.lemmas.Bool.{cases_eq}
use Rattle.std.proofs.lemmas.Bool.Decides.{nat_tests}
use Rattle.core_data.specs.Columns.{put}
use Rattle.core_invariant.proofs.Puts.{put_here, put_there}
use Rattle.core_invariant.specs.Positions.{ClaimedTasks}
use Rattle.core_kinds.specs.Steps.{waking}
use Rattle.core_places.proofs.Marks.{mark, renew, marked, renewed, renewed_other}
use Rattle.handoff_data.specs.declared.state.State.{State}

pub ClaimedTasks-take : (state : ℕ → State) (on_rq : ℕ → ℕ) (on_cpu : ℕ → Bool) (lock : ℕ → Option ℕ) (claimed clear : ℕ → ℕ → Bool) (s t : ℕ) → ClaimedTasks state on_rq on_cpu lock claimed clear
    → lock t ≡ None
    → ClaimedTasks state on_rq on_cpu (put lock t (Some s)) claimed clear
ClaimedTasks-take state on_rq on_cpu lock claimed clear s t p free =
    record { locked = λ k u h. let l = p.locked k u h in grind (arith, nat_tests, l, free); off = p.off; awaits = p.awaits; idle = p.idle }

pub ClaimedTasks-give : (state : ℕ → State) (on_rq : ℕ → ℕ) (on_cpu : ℕ → Bool) (lock : ℕ → Option ℕ) (claimed clear : ℕ → ℕ → Bool) (t : ℕ) → ClaimedTasks state on_rq on_cpu lock claimed clear
    → (on_rq t ≢ 0) ⊎ (state t ≢ waking)
    → ClaimedTasks state on_rq on_cpu (put lock t None) claimed clear
ClaimedTasks-give state on_rq on_cpu lock claimed clear t p settled =
    record { locked = λ k u h. let l = p.locked k u h in grind (arith, nat_tests, l, p.off k u h, p.awaits k u h, settled); off = p.off; awaits = p.awaits; idle = p.idle }

-- a task is queued by the seat that has its lock, and its claim ends
pub ClaimedTasks-queue : (state : ℕ → State) (on_rq : ℕ → ℕ) (on_cpu : ℕ → Bool) (lock : ℕ → Option ℕ) (claimed clear : ℕ → ℕ → Bool) (s t : ℕ) → ClaimedTasks state on_rq on_cpu lock claimed clear
    → lock t ≡ Some s
    → ClaimedTasks state (put on_rq t 1) on_cpu lock (renew claimed s t) clear
ClaimedTasks-queue state on_rq on_cpu lock claimed clear s t p locked =
    record {
      locked = λ k u h. p.locked k u (renewed claimed s t k u h);
      off = λ k u h. put_there on_rq t 1 u (other k u h) ∙ p.off k u (renewed claimed s t k u h);
      awaits = λ k u h. p.awaits k u (renewed claimed s t k u h);
      idle = λ k u h c. p.idle k u (renewed claimed s t k u h) c;
    }
  where
    other : (k u : ℕ) → renew claimed s t k u ≡ true → u ≢ t
    other k u h q = renewed_other claimed s t k u h q (grind (arith, p.locked k u (renewed claimed s t k u h), ap lock q, locked))

-- a queued task is taken off its queue
pub ClaimedTasks-off : (state : ℕ → State) (on_rq : ℕ → ℕ) (on_cpu : ℕ → Bool) (lock : ℕ → Option ℕ) (claimed clear : ℕ → ℕ → Bool) (t v : ℕ) → ClaimedTasks state on_rq on_cpu lock claimed clear
    → on_rq t ≡ 1
    → ClaimedTasks state (put on_rq t v) on_cpu lock claimed clear
ClaimedTasks-off state on_rq on_cpu lock claimed clear t v p queued =
    record { locked = p.locked; off = λ k u h. let o = p.off k u h in grind (arith, nat_tests, o, queued); awaits = p.awaits; idle = p.idle }

pub ClaimedTasks-busy : (state : ℕ → State) (on_rq : ℕ → ℕ) (on_cpu : ℕ → Bool) (lock : ℕ → Option ℕ) (claimed clear : ℕ → ℕ → Bool) (t : ℕ) → ClaimedTasks state on_rq on_cpu lock claimed clear
    → on_rq t ≡ 1
    → ClaimedTasks state on_rq (put on_cpu t true) lock claimed clear
ClaimedTasks-busy state on_rq on_cpu lock claimed clear t p queued =
    record { locked = p.locked; off = p.off; awaits = p.awaits; idle = λ k u h c. grind (arith, nat_tests, p.idle k u h c, p.off k u h, queued) }

pub ClaimedTasks-clear : (state : ℕ → State) (on_rq : ℕ → ℕ) (on_cpu : ℕ → Bool) (lock : ℕ → Option ℕ) (claimed clear : ℕ → ℕ → Bool) (t : ℕ) → ClaimedTasks state on_rq on_cpu lock claimed clear
    → ClaimedTasks state on_rq (put on_cpu t false) lock claimed clear
ClaimedTasks-clear state on_rq on_cpu lock claimed clear t p =
    record { locked = p.locked; off = p.off; awaits = p.awaits; idle = λ k u h c. grind (arith, nat_tests, p.idle k u h c) }

-- the state of a task is stored that isn't claimed
pub ClaimedTasks-state : (state : ℕ → State) (on_rq : ℕ → ℕ) (on_cpu : ℕ → Bool) (lock : ℕ → Option ℕ) (claimed clear : ℕ → ℕ → Bool) (t : ℕ) (x : State)
    → ClaimedTasks state on_rq on_cpu lock claimed clear
    → (on_rq t ≢ 0) ⊎ (state t ≢ waking)
    → ClaimedTasks (put state t x) on_rq on_cpu lock claimed clear
ClaimedTasks-state state on_rq on_cpu lock claimed clear t x p settled =
    record {
      locked = p.locked;
      off = p.off;
      awaits = λ k u h. put_there state t x u (λ q. grind (arith, q, p.off k u h, p.awaits k u h, settled)) ∙ p.awaits k u h;
      idle = p.idle;
    }

pub ClaimedTasks-claim : (state : ℕ → State) (on_rq : ℕ → ℕ) (on_cpu : ℕ → Bool) (lock : ℕ → Option ℕ) (claimed clear : ℕ → ℕ → Bool) (s t : ℕ) → ClaimedTasks state on_rq on_cpu lock claimed clear
    → lock t ≡ Some s → on_rq t ≡ 0
    → ClaimedTasks (put state t waking) on_rq on_cpu lock (mark claimed s t) (renew clear s t)
ClaimedTasks-claim state on_rq on_cpu lock claimed clear s t p locked off =
    record {
      locked = λ k u h. elim (marked claimed s t k u h) [ inl a ↦ p.locked k u a | inr a ↦ ap lock a.1 ∙ (locked ∙ ap Some (sym a.0)) ];
      off = λ k u h. elim (marked claimed s t k u h) [ inl a ↦ p.off k u a | inr a ↦ ap on_rq a.1 ∙ off ];
      awaits = λ k u h. elim (cases_eq u t) [
        | inl q ↦ put_here state t waking u q
        | inr q ↦ elim (marked claimed s t k u h) [ inl a ↦ put_there state t waking u q ∙ p.awaits k u a | inr a ↦ absurd (q a.1) ]
      ];
      idle = λ k u h c. elim (marked claimed s t k u h) [ inl a ↦ p.idle k u a (renewed clear s t k u c) | inr a ↦ absurd (renewed_other clear s t k u c a.1 a.0) ];
    }

pub ClaimedTasks-saw_clear : (state : ℕ → State) (on_rq : ℕ → ℕ) (on_cpu : ℕ → Bool) (lock : ℕ → Option ℕ) (claimed clear : ℕ → ℕ → Bool) (s t : ℕ) → ClaimedTasks state on_rq on_cpu lock claimed clear
    → on_cpu t ≡ false
    → ClaimedTasks state on_rq on_cpu lock claimed (mark clear s t)
ClaimedTasks-saw_clear state on_rq on_cpu lock claimed clear s t p idle =
    record {
      locked = p.locked;
      off = p.off;
      awaits = p.awaits;
      idle = λ k u h c. elim (marked clear s t k u c) [ inl a ↦ p.idle k u h a | inr a ↦ ap on_cpu a.1 ∙ idle ];
    }
