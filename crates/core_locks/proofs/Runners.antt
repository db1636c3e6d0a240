-- Busy words, current tasks and bodies, step by step.
use Rattle.std.proofs.Common.{◌≡◌, ℕ, inl, inr, Bool, true, false, Some, None, Option, arith}
use Rattle.std.specs.Prelude.{if◌then◌else◌, is_none, IsSome}
use Rattle.std.proofs.lemmas.Bool.{cases_eq}
use Rattle.std.proofs.lemmas.Bool.Decides.{nat_tests}
use Rattle.core_data.specs.Queue.{Queue}
use Rattle.core_data.specs.Columns.{put, put_at}
use Rattle.core_invariant.specs.Busy.{OneRunner, NamedByQueue, BodiesKept}

pub OneRunner-set_busy : (on_cpu : ℕ → Bool) (cpu : ℕ → ℕ) (current to_clear : ℕ → Option ℕ) (s t : ℕ) → OneRunner on_cpu cpu current to_clear
    → cpu t ≡ s → on_cpu t ≡ false → current s ≡ None → to_clear s ≡ None → OneRunner (put on_cpu t true) cpu (put current s (Some t)) to_clear
OneRunner-set_busy on_cpu cpu current to_clear s t p here idle free clear =
    record {
      current_busy = λ k u e. grind (arith, nat_tests, p.current_busy k u);
      current_here = λ k u e. grind (arith, nat_tests, p.current_here k u);
      left_busy = λ k u e. grind (arith, nat_tests, p.left_busy k u);
      left_here = λ k u e. grind (arith, nat_tests, p.left_here k u);
      clear_first = λ k u e. grind (arith, nat_tests, p.clear_first k u);
      busy_is = λ u e. grind (arith, nat_tests, p.busy_is u);
    }

pub OneRunner-clear_busy : (on_cpu : ℕ → Bool) (cpu : ℕ → ℕ) (current to_clear : ℕ → Option ℕ) (s t : ℕ) → OneRunner on_cpu cpu current to_clear
    → to_clear s ≡ Some t → OneRunner (put on_cpu t false) cpu current (put to_clear s None)
OneRunner-clear_busy on_cpu cpu current to_clear s t p left =
    record {
      current_busy = λ k u e. grind (arith, nat_tests, p.current_busy k u, p.current_here k u, p.left_here s t left, p.clear_first k u);
      current_here = λ k u e. p.current_here k u e;
      left_busy = λ k u e. grind (arith, nat_tests, p.left_busy k u, p.left_here k u, p.left_here s t left);
      left_here = λ k u e. grind (arith, nat_tests, p.left_here k u);
      clear_first = λ k u e. grind (arith, nat_tests, p.clear_first k u);
      busy_is = λ u e. grind (arith, nat_tests, p.busy_is u, p.left_here s t left);
    }

-- a task that isn't busy is placed
pub OneRunner-store_cpu : (on_cpu : ℕ → Bool) (cpu : ℕ → ℕ) (current to_clear : ℕ → Option ℕ) (t c : ℕ) → OneRunner on_cpu cpu current to_clear
    → on_cpu t ≡ false → OneRunner on_cpu (put cpu t c) current to_clear
OneRunner-store_cpu on_cpu cpu current to_clear t c p idle =
    record {
      current_busy = p.current_busy;
      current_here = λ k u e. grind (arith, nat_tests, p.current_here k u, p.current_busy k u);
      left_busy = p.left_busy;
      left_here = λ k u e. grind (arith, nat_tests, p.left_here k u, p.left_busy k u);
      clear_first = p.clear_first;
      busy_is = λ u e. grind (arith, nat_tests, p.busy_is u);
    }

-- a seat gives its current task up
pub OneRunner-give_up : (on_cpu : ℕ → Bool) (cpu : ℕ → ℕ) (current to_clear : ℕ → Option ℕ) (s : ℕ) → OneRunner on_cpu cpu current to_clear
    → OneRunner on_cpu cpu (put current s None) (put to_clear s (if is_none (current s) then to_clear s else current s))
OneRunner-give_up on_cpu cpu current to_clear s p =
    record {
      current_busy = λ k u e. grind (arith, nat_tests, p.current_busy k u);
      current_here = λ k u e. grind (arith, nat_tests, p.current_here k u);
      left_busy = λ k u e. grind (arith, nat_tests, p.left_busy k u, p.current_busy k u);
      left_here = λ k u e. grind (arith, nat_tests, p.left_here k u, p.current_here k u);
      clear_first = λ k u e. grind (arith, nat_tests, p.clear_first k u);
      busy_is = λ u e. grind (arith, nat_tests, p.busy_is u, p.clear_first s u);
    }

pub NamedByQueue-take : (current to_clear : ℕ → Option ℕ) (queue : ℕ → Option Queue) (out : ℕ → ℕ → Option Queue) (s c : ℕ) → NamedByQueue current to_clear queue out
    → NamedByQueue current to_clear (put queue c None) (put_at out s c (queue c))
NamedByQueue-take current to_clear queue out s c p =
    record {
      left_home = λ d t val l e. grind (arith, nat_tests, p.left_home d t val);
      left_out = λ u d t val l e. grind (arith, nat_tests, p.left_out u d t val, p.left_home d t val);
      cur_home = λ d t val l e. grind (arith, nat_tests, p.cur_home d t val);
      cur_out = λ u d t val other l e. grind (arith, nat_tests, p.cur_out u d t val, p.cur_home d t val);
    }

pub NamedByQueue-set_busy : (current to_clear : ℕ → Option ℕ) (queue : ℕ → Option Queue) (out : ℕ → ℕ → Option Queue) (s t : ℕ) → NamedByQueue current to_clear queue out
    → queue s ≡ None → ((u : ℕ) → IsSome (out u s) → u ≡ s) → NamedByQueue (put current s (Some t)) to_clear queue out
NamedByQueue-set_busy current to_clear queue out s t p away only =
    record {
      left_home = p.left_home;
      left_out = p.left_out;
      cur_home = λ d u val l e. grind (arith, nat_tests, p.cur_home d u val);
      cur_out = λ k d u val other l e. grind (arith, nat_tests, p.cur_out k d u val other, only k);
    }

pub NamedByQueue-clear_busy : (current to_clear : ℕ → Option ℕ) (queue : ℕ → Option Queue) (out : ℕ → ℕ → Option Queue) (s : ℕ) → NamedByQueue current to_clear queue out
    → NamedByQueue current (put to_clear s None) queue out
NamedByQueue-clear_busy current to_clear queue out s p =
    record {
      left_home = λ d t val l e. grind (arith, nat_tests, p.left_home d t val);
      left_out = λ u d t val l e. grind (arith, nat_tests, p.left_out u d t val);
      cur_home = p.cur_home;
      cur_out = p.cur_out;
    }

-- a queue is given whose `left` and `cur` are those that the words want
pub NamedByQueue-give : (current to_clear : ℕ → Option ℕ) (queue : ℕ → Option Queue) (out : ℕ → ℕ → Option Queue) (s c : ℕ) (val : Queue) → NamedByQueue current to_clear queue out
    → ((t : ℕ) → to_clear c ≡ Some t → val.left ≡ Some t) → ((t : ℕ) → current c ≡ Some t → val.cur ≡ Some t)
    → NamedByQueue current to_clear (put queue c (Some val)) (put_at out s c None)
NamedByQueue-give current to_clear queue out s c val p left cur =
    record {
      left_home = λ d t v l e. grind (arith, nat_tests, p.left_home d t v, left t);
      left_out = λ u d t v l e. grind (arith, nat_tests, p.left_out u d t v);
      cur_home = λ d t v l e. grind (arith, nat_tests, p.cur_home d t v, cur t);
      cur_out = λ u d t v other l e. grind (arith, nat_tests, p.cur_out u d t v other);
    }

-- the seat of a queue that nobody has, but that seat, gives its current task up
pub NamedByQueue-give_up : (current to_clear : ℕ → Option ℕ) (queue : ℕ → Option Queue) (out : ℕ → ℕ → Option Queue) (s : ℕ) (val : Queue) → NamedByQueue current to_clear queue out
    → queue s ≡ None → ((u : ℕ) → IsSome (out u s) → u ≡ s) → ((t : ℕ) → to_clear s ≡ Some t → val.left ≡ Some t) → ((t : ℕ) → current s ≡ Some t → val.left ≡ Some t)
    → NamedByQueue (put current s None) (put to_clear s (if is_none (current s) then to_clear s else current s)) (put queue s (Some val)) (put_at out s s None)
NamedByQueue-give_up current to_clear queue out s val p away only left cur =
    record {
      left_home = λ d t v l e. grind (arith, nat_tests, p.left_home d t v, left t, cur t);
      left_out = λ u d t v l e. grind (arith, nat_tests, p.left_out u d t v, only u);
      cur_home = λ d t v l e. grind (arith, nat_tests, p.cur_home d t v);
      cur_out = λ u d t v other l e. grind (arith, nat_tests, p.cur_out u d t v other);
    }

-- a seat whose current task has its body home gives it up
pub BodiesKept-give_up : (tasks : ℕ) (body : ℕ → Bool) (body_out current : ℕ → Option ℕ) (s : ℕ) → BodiesKept tasks body body_out current
    → ((t : ℕ) → current s ≡ Some t → body t ≡ true) → BodiesKept tasks body body_out (put current s None)
BodiesKept-give_up tasks body body_out current s p home =
    record {
      out_current = λ k t e. grind (arith, nat_tests, p.out_current k t, p.out_away k t, home t);
      out_away = p.out_away;
      away_out = p.away_out;
    }

pub BodiesKept-set_busy : (tasks : ℕ) (body : ℕ → Bool) (body_out current : ℕ → Option ℕ) (s t : ℕ) → BodiesKept tasks body body_out current
    → current s ≡ None → BodiesKept tasks body body_out (put current s (Some t))
BodiesKept-set_busy tasks body body_out current s t p free =
    record {
      out_current = λ k u e. grind (arith, nat_tests, p.out_current k u);
      out_away = p.out_away;
      away_out = p.away_out;
    }

pub BodiesKept-out : (tasks : ℕ) (body : ℕ → Bool) (body_out current : ℕ → Option ℕ) (s t : ℕ) → BodiesKept tasks body body_out current
    → current s ≡ Some t → body t ≡ true → BodiesKept tasks (put body t false) (put body_out s (Some t)) current
BodiesKept-out tasks body body_out current s t p is home =
    record {
      out_current = λ k u e. grind (arith, nat_tests, p.out_current k u);
      out_away = λ k u e. grind (arith, nat_tests, p.out_away k u);
      away_out = λ u h e. elim (cases_eq u t) [
        | inl q ↦ (s, grind (arith, nat_tests, q))
        | inr q ↦ let r = p.away_out u h (grind (arith, nat_tests, e, q)) in (r.0, grind (arith, nat_tests, r.1, p.out_current r.0 u r.1, is, q))
      ];
    }

pub BodiesKept-home : (tasks : ℕ) (body : ℕ → Bool) (body_out current : ℕ → Option ℕ) (s t : ℕ) → BodiesKept tasks body body_out current
    → body_out s ≡ Some t → ((k : ℕ) → current k ≡ Some t → k ≡ s) → BodiesKept tasks (put body t true) (put body_out s None) current
BodiesKept-home tasks body body_out current s t p out only =
    record {
      out_current = λ k u e. grind (arith, nat_tests, p.out_current k u);
      out_away = λ k u e. grind (arith, nat_tests, p.out_away k u, p.out_current k u, only k);
      away_out = λ u h e. elim (cases_eq u t) [
        | inl q ↦ absurd (grind (arith, nat_tests, e, q))
        | inr q ↦ let r = p.away_out u h (grind (arith, nat_tests, e, q)) in (r.0, grind (arith, nat_tests, r.1, out, q))
      ];
    }
