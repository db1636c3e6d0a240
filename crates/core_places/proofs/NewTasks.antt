-- What holds of tasks that were never queued, step by step.
use Rattle.std.proofs.Common.{◌≡◌, ◌≢◌, ℕ, ◌+◌, ◌≤◌, ◌⊎◌, inl, inr, Bool, true, false, Option, Some, None, refl, sym, ◌∙◌, arith}
use Rattle.std.specs.Prelude.{IsSome, if◌then◌else◌, ◌==◌}
use Rattle.std.proofs.lemmas.Bool.Decides.{nat_tests}
use Rattle.std.proofs.Common.{subst}
use Rattle.std.proofs.lemmas.Bool.{cases_eq}
use Rattle.core_invariant.proofs.Puts.{put_here, put_there}
use Rattle.core_data.specs.Columns.{put, put_at}
use Rattle.core_data.specs.declared.values.TaskVal.{TaskVal}
use Rattle.core_invariant.specs.Places.{NewTasks, NewStates, NewValues, IsOpeningVal}
use Rattle.core_kinds.specs.Locks.{IsKept}
use Rattle.core_kinds.specs.Steps.{fresh, IsRunnable}
use Rattle.handoff_data.specs.declared.state.State.{State}

pub on_rq-put : (on_rq : ℕ → ℕ) (t v : ℕ) → ((u : ℕ) → on_rq u ≤ 2) → v ≤ 2 → (u : ℕ) → put on_rq t v u ≤ 2
on_rq-put on_rq t v p h u = grind (arith, nat_tests, p u)

-- the number of a task's changes rises
pub NewTasks-change : (on_rq changes : ℕ → ℕ) (on_cpu : ℕ → Bool) (count : ℕ → ℕ) (t v : ℕ) → NewTasks on_rq changes on_cpu count
    → NewTasks (put on_rq t v) (put changes t (changes t + 1)) on_cpu count
NewTasks-change on_rq changes on_cpu count t v p =
    record {
      off = λ u h. grind (arith, nat_tests, p.off u);
      idle = λ u h. grind (arith, nat_tests, p.idle u);
      level = λ u h. grind (arith, nat_tests, p.level u);
    }

pub NewTasks-busy : (on_rq changes : ℕ → ℕ) (on_cpu : ℕ → Bool) (count : ℕ → ℕ) (t : ℕ) → NewTasks on_rq changes on_cpu count → on_rq t ≡ 1
    → NewTasks on_rq changes (put on_cpu t true) count
NewTasks-busy on_rq changes on_cpu count t p queued =
    record {
      off = p.off;
      idle = λ u h. grind (arith, nat_tests, p.idle u, p.off u);
      level = p.level;
    }

pub NewTasks-clear : (on_rq changes : ℕ → ℕ) (on_cpu : ℕ → Bool) (count : ℕ → ℕ) (t : ℕ) → NewTasks on_rq changes on_cpu count
    → NewTasks on_rq changes (put on_cpu t false) count
NewTasks-clear on_rq changes on_cpu count t p =
    record {
      off = p.off;
      idle = λ u h. grind (arith, nat_tests, p.idle u);
      level = p.level;
    }

pub NewStates-take : (tasks : ℕ) (state : ℕ → State) (changes : ℕ → ℕ) (lock : ℕ → Option ℕ) (stored : ℕ → ℕ → Bool) (s t : ℕ) → NewStates tasks state changes lock stored → lock t ≡ None
    → NewStates tasks state changes (put lock t (Some s)) (put stored s (λ u. if u == t then false else stored s u))
NewStates-take tasks state changes lock stored s t p free =
    record {
      free = λ u b h e. grind (arith, nat_tests, p.free u b h);
      held = λ u k b h e f. grind (arith, nat_tests, p.held u k b h, p.free u b h);
      runnable = p.runnable;
    }

pub NewStates-give : (tasks : ℕ) (state : ℕ → State) (changes : ℕ → ℕ) (lock : ℕ → Option ℕ) (stored : ℕ → ℕ → Bool) (t : ℕ) → NewStates tasks state changes lock stored
    → (changes t ≡ 0 → state t ≡ fresh)
    → NewStates tasks state changes (put lock t None) stored
NewStates-give tasks state changes lock stored t p new =
    record {
      free = λ u b h e. grind (arith, nat_tests, p.free u b h, new);
      held = λ u k b h e f. grind (arith, nat_tests, p.held u k b h);
      runnable = p.runnable;
    }

-- a seat stores another word of a task
pub NewStates-stored : (tasks : ℕ) (state : ℕ → State) (changes : ℕ → ℕ) (lock : ℕ → Option ℕ) (stored : ℕ → ℕ → Bool) (s t : ℕ) → NewStates tasks state changes lock stored
    → NewStates tasks state changes lock (put stored s (λ u. if u == t then true else stored s u))
NewStates-stored tasks state changes lock stored s t p =
    record {
      free = p.free;
      held = λ u k b h e f. grind (arith, nat_tests, p.held u k b h);
      runnable = p.runnable;
    }

pub NewStates-change : (tasks : ℕ) (state : ℕ → State) (changes : ℕ → ℕ) (lock : ℕ → Option ℕ) (stored : ℕ → ℕ → Bool) (s t : ℕ) → NewStates tasks state changes lock stored
    → NewStates tasks state (put changes t (changes t + 1)) lock (put stored s (λ u. if u == t then true else stored s u))
NewStates-change tasks state changes lock stored s t p =
    record {
      free = λ u b h e. grind (arith, nat_tests, p.free u b);
      held = λ u k b h e f. grind (arith, nat_tests, p.held u k b);
      runnable = λ u h. grind (arith, nat_tests, p.runnable u);
    }

-- the state of a task is stored that isn't new, or by the seat that has its lock
pub NewStates-state : (tasks : ℕ) (state : ℕ → State) (changes : ℕ → ℕ) (lock : ℕ → Option ℕ) (stored : ℕ → ℕ → Bool) (s t : ℕ) (x : State) → NewStates tasks state changes lock stored
    → (changes t ≢ 0) ⊎ ((lock t ≡ Some s) × IsRunnable x)
    → NewStates tasks (put state t x) changes lock (put stored s (λ u. if u == t then true else stored s u))
NewStates-state tasks state changes lock stored s t x p by =
    record {
      free = λ u b h e. grind (arith, nat_tests, p.free u b h, by);
      held = λ u k b h e f. grind (arith, nat_tests, p.held u k b h, by);
      runnable = λ u h. grind (arith, nat_tests, p.runnable u h, by);
    }

pub NewValues-take : (cpus : ℕ) (changes : ℕ → ℕ) (val : ℕ → Option TaskVal) (task_out : ℕ → ℕ → Option TaskVal) (s t : ℕ) → NewValues cpus changes val task_out
    → NewValues cpus changes (put val t None) (put_at task_out s t (val t))
NewValues-take cpus changes val task_out s t p =
    record {
      at_home = λ u v h e. p.at_home u v h (grind (arith, nat_tests, e));
      taken = λ k u v h e. grind (arith, nat_tests, p.taken k u v h, p.at_home u v h);
    }

IsOpeningVal-kept : (cpus : ℕ) (taken given : TaskVal) → IsOpeningVal cpus taken → IsKept taken given → IsOpeningVal cpus given
IsOpeningVal-kept cpus taken given p k =
    record {
      mask = λ c. rw k.mask (p.mask c);
      pending = k.pending ∙ p.pending;
      stop_queued = k.stop_queued ∙ p.stop_queued;
    }

pub NewValues-give : (cpus : ℕ) (changes : ℕ → ℕ) (val : ℕ → Option TaskVal) (task_out : ℕ → ℕ → Option TaskVal) (s t : ℕ) (given : TaskVal) → NewValues cpus changes val task_out
    → IsSome (task_out s t) → ((taken : TaskVal) → task_out s t ≡ Some taken → IsKept taken given)
    → NewValues cpus changes (put val t (Some given)) (put_at task_out s t None)
NewValues-give cpus changes val task_out s t given p out kept =
    record {
      at_home = λ u v h e. elim (cases_eq u t) [
        | inl q ↦ subst (IsOpeningVal cpus) (cc (put_here val t (Some given) u q)) (opening (task_out s t) refl out (subst (λ z. changes z ≡ 0) q h))
        | inr q ↦ p.at_home u v h (sym (put_there val t (Some given) u q) ∙ e)
      ];
      taken = λ k u v h e. p.taken k u v h (grind (arith, nat_tests, e));
    }
  where
    opening : (o : Option TaskVal) → task_out s t ≡ o → IsSome o → changes t ≡ 0 → IsOpeningVal cpus given
    opening None q some h = absurd (grind (arith, some))
    opening (Some taken) q some h = IsOpeningVal-kept cpus taken given (p.taken s t taken h q) (kept taken q)

pub NewValues-change : (cpus : ℕ) (changes : ℕ → ℕ) (val : ℕ → Option TaskVal) (task_out : ℕ → ℕ → Option TaskVal) (t : ℕ) → NewValues cpus changes val task_out
    → NewValues cpus (put changes t (changes t + 1)) val task_out
NewValues-change cpus changes val task_out t p =
    record {
      at_home = λ u v h e. p.at_home u v (grind (arith, nat_tests, h)) e;
      taken = λ k u v h e. p.taken k u v (grind (arith, nat_tests, h)) e;
    }
