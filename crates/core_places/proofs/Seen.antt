-- What holds of the state that a seat has read of its current task, step by step.
use Rattle.std.proofs.Common.{◌≡◌, ◌≢◌, ℕ, inl, inr, Option, Some, None, sym, ap, ◌∙◌, arith}
use Rattle.std.specs.Prelude.{if◌then◌else◌, ◌==◌}
use Rattle.std.proofs.lemmas.Bool.{cases_eq}
use Rattle.std.proofs.lemmas.Bool.Decides.{nat_tests}
use Rattle.core_data.specs.Columns.{put}
use Rattle.core_invariant.proofs.Puts.{put_here, put_there}
use Rattle.core_invariant.specs.Positions.{SeenStates}
use Rattle.handoff_data.specs.declared.state.State.{State}

pub SeenStates-take : (cpus : ℕ) (state : ℕ → State) (on_rq : ℕ → ℕ) (queue_lock current : ℕ → Option ℕ) (seen : ℕ → Option State) (s c : ℕ) → SeenStates cpus state on_rq queue_lock current seen
    → queue_lock c ≡ None
    → SeenStates cpus state on_rq (put queue_lock c (Some s)) current (if s == c then put seen s None else seen)
SeenStates-take cpus state on_rq queue_lock current seen s c p free =
    record {
      locked = λ k x e. grind (arith, nat_tests, p.locked k x, e, free);
      is = λ k u x h o e. p.is k u x h o (grind (arith, nat_tests, e));
    }

-- a queue is given, and with it the current task of its seat may be given up
pub SeenStates-give : (cpus : ℕ) (state : ℕ → State) (on_rq : ℕ → ℕ) (queue_lock current next : ℕ → Option ℕ) (seen : ℕ → Option State) (s c : ℕ) → SeenStates cpus state on_rq queue_lock current seen
    → queue_lock c ≡ Some s
    → ((k u : ℕ) → next k ≡ Some u → current k ≡ Some u)
    → SeenStates cpus state on_rq (put queue_lock c None) next (if s == c then put seen s None else seen)
SeenStates-give cpus state on_rq queue_lock current next seen s c p locked less =
    record {
      locked = λ k x e. grind (arith, nat_tests, p.locked k x, e, locked);
      is = λ k u x h o e. p.is k u x (less k u h) o (grind (arith, nat_tests, e));
    }

-- a task that no seat has as current is queued
pub SeenStates-queue : (cpus : ℕ) (state : ℕ → State) (on_rq : ℕ → ℕ) (queue_lock current : ℕ → Option ℕ) (seen : ℕ → Option State) (t : ℕ) → SeenStates cpus state on_rq queue_lock current seen
    → ((k : ℕ) → current k ≢ Some t)
    → SeenStates cpus state (put on_rq t 1) queue_lock current seen
SeenStates-queue cpus state on_rq queue_lock current seen t p idle =
    record { locked = p.locked; is = λ k u x h o e. p.is k u x h (sym (put_there on_rq t 1 u (λ q. idle k (h ∙ ap Some q))) ∙ o) e }

pub SeenStates-off : (cpus : ℕ) (state : ℕ → State) (on_rq : ℕ → ℕ) (queue_lock current : ℕ → Option ℕ) (seen : ℕ → Option State) (t v : ℕ) → SeenStates cpus state on_rq queue_lock current seen
    → v ≢ 1
    → SeenStates cpus state (put on_rq t v) queue_lock current seen
SeenStates-off cpus state on_rq queue_lock current seen t v p off =
    record { locked = p.locked; is = λ k u x h o e. p.is k u x h (grind (arith, nat_tests, o, off)) e }

pub SeenStates-pick : (cpus : ℕ) (state : ℕ → State) (on_rq : ℕ → ℕ) (queue_lock current : ℕ → Option ℕ) (seen : ℕ → Option State) (s t : ℕ) → SeenStates cpus state on_rq queue_lock current seen
    → SeenStates cpus state on_rq queue_lock (put current s (Some t)) (put seen s None)
SeenStates-pick cpus state on_rq queue_lock current seen s t p =
    record {
      locked = λ k x e. p.locked k x (grind (arith, nat_tests, e));
      is = λ k u x h o e. p.is k u x (grind (arith, nat_tests, h, e)) o (grind (arith, nat_tests, e));
    }

-- the state of a task is stored by the seat that has it as current
pub SeenStates-own : (cpus : ℕ) (state : ℕ → State) (on_rq : ℕ → ℕ) (queue_lock current : ℕ → Option ℕ) (seen : ℕ → Option State) (s t : ℕ) (new : State)
    → SeenStates cpus state on_rq queue_lock current seen
    → ((k : ℕ) → current k ≡ Some t → k ≡ s)
    → SeenStates cpus (put state t new) on_rq queue_lock current (put seen s None)
SeenStates-own cpus state on_rq queue_lock current seen s t new p own =
    record {
      locked = λ k x e. p.locked k x (grind (arith, nat_tests, e));
      is = λ k u x h o e. put_there state t new u (λ q. grind (arith, nat_tests, e, own k (h ∙ ap Some q))) ∙ p.is k u x h o (grind (arith, nat_tests, e));
    }

-- .. or that no seat has as current, with its own queue locked
pub SeenStates-state : (cpus : ℕ) (state : ℕ → State) (on_rq : ℕ → ℕ) (queue_lock current : ℕ → Option ℕ) (seen : ℕ → Option State) (t : ℕ) (new : State)
    → SeenStates cpus state on_rq queue_lock current seen
    → ((k : ℕ) → current k ≡ Some t → on_rq t ≡ 1 → queue_lock k ≡ Some k → ⊥)
    → SeenStates cpus (put state t new) on_rq queue_lock current seen
SeenStates-state cpus state on_rq queue_lock current seen t new p apart =
    record {
      locked = p.locked;
      is = λ k u x h o e. put_there state t new u (λ q. apart k (h ∙ ap Some q) (ap on_rq (sym q) ∙ o) (p.locked k x e)) ∙ p.is k u x h o e;
    }

pub SeenStates-load : (cpus : ℕ) (state : ℕ → State) (on_rq : ℕ → ℕ) (queue_lock current : ℕ → Option ℕ) (seen : ℕ → Option State) (s t : ℕ) (x : State)
    → SeenStates cpus state on_rq queue_lock current seen
    → current s ≡ Some t → queue_lock s ≡ Some s → state t ≡ x
    → SeenStates cpus state on_rq queue_lock current (put seen s (Some x))
SeenStates-load cpus state on_rq queue_lock current seen s t x p own locked read =
    record {
      locked = λ k y e. grind (arith, nat_tests, p.locked k y, e, locked);
      is = λ k u y h o e. elim (cases_eq k s) [
        | inl q ↦ let same : u ≡ t = grind (arith, h, ap current q, own) in let is : x ≡ y = cc (put_here seen s (Some x) k q) in ap state same ∙ (read ∙ is)
        | inr q ↦ p.is k u y h o (sym (put_there seen s (Some x) k q) ∙ e)
      ];
    }
