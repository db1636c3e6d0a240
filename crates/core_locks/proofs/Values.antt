-- What holds of the values of locks, when one of them is taken or given.
use Rattle.std.proofs.Common.{◌≡◌, ◌≢◌, ℕ, ◌<◌, inl, inr, Some, None, Option, sym, ap, subst, ◌∙◌, arith}
use Rattle.std.proofs.lemmas.Bool.{cases_eq}
use Rattle.std.proofs.lemmas.Bool.Decides.{nat_tests}
use Rattle.core_data.specs.Queue.{Queue}
use Rattle.core_data.specs.Columns.{put, put_at}
use Rattle.core_data.specs.declared.values.TaskVal.{TaskVal}
use Rattle.core_gives.specs.Queues.{IsQueueOf}
use Rattle.core_invariant.proofs.Puts.{put_here, put_there}
use Rattle.core_invariant.specs.Shapes.{HoldsOfValues, IsTaskVal, IsQueueVal}
use Rattle.core_kinds.specs.Locks.{IsKept}
use Rattle.handoff_data.specs.Mask.{HasCpu}

-- a column of columns after a store
pub at_here : {A : Type 0} (f : ℕ → ℕ → A) (s k : ℕ) (v : A) (u j : ℕ) → u ≡ s → j ≡ k → put_at f s k v u j ≡ v
at_here f s k v u j q r = ap (λ g. g j) (put_here f s (put (f s) k v) u q) ∙ put_here (f s) k v j r

pub at_there : {A : Type 0} (f : ℕ → ℕ → A) (s k : ℕ) (v : A) (u j : ℕ) → j ≢ k → put_at f s k v u j ≡ f u j
at_there f s k v u j r = elim (cases_eq u s) [
  | inl q ↦ ap (λ g. g j) (put_here f s (put (f s) k v) u q) ∙ put_there (f s) k v j r ∙ ap (λ z. f z j) (sym q)
  | inr q ↦ ap (λ g. g j) (put_there f s (put (f s) k v) u q)
]

pub at_other : {A : Type 0} (f : ℕ → ℕ → A) (s k : ℕ) (v : A) (u j : ℕ) → u ≢ s → put_at f s k v u j ≡ f u j
at_other f s k v u j q = ap (λ g. g j) (put_there f s (put (f s) k v) u q)

pub HoldsOfValues-take : (A : Type 0) (P : A → Type 0) (home : ℕ → Option A) (out : ℕ → ℕ → Option A) (s k : ℕ) → HoldsOfValues A P home out
    → HoldsOfValues A P (put home k None) (put_at out s k (home k))
HoldsOfValues-take A P home out s k p =
    record {
      at_home = λ j v e. elim (cases_eq j k) [
        | inl q ↦ absurd (grind (arith, put_here home k None j q, e))
        | inr q ↦ p.at_home j v (sym (put_there home k None j q) ∙ e)
      ];
      taken = λ u j v e. elim (cases_eq j k) [
        | inl q ↦ elim (cases_eq u s) [
          | inl r ↦ p.at_home k v (sym (at_here out s k (home k) u j r q) ∙ e)
          | inr r ↦ p.taken u j v (sym (at_other out s k (home k) u j r) ∙ e)
        ]
        | inr q ↦ p.taken u j v (sym (at_there out s k (home k) u j q) ∙ e)
      ];
    }

pub HoldsOfValues-give : (A : Type 0) (P : A → Type 0) (home : ℕ → Option A) (out : ℕ → ℕ → Option A) (s k : ℕ) (val : A) → HoldsOfValues A P home out → P val
    → HoldsOfValues A P (put home k (Some val)) (put_at out s k None)
HoldsOfValues-give A P home out s k val p h =
    record {
      at_home = λ j v e. elim (cases_eq j k) [
        | inl q ↦ let same : val ≡ v = grind (arith, put_here home k (Some val) j q, e) in subst P same h
        | inr q ↦ p.at_home j v (sym (put_there home k (Some val) j q) ∙ e)
      ];
      taken = λ u j v e. elim (cases_eq j k) [
        | inl q ↦ elim (cases_eq u s) [
          | inl r ↦ absurd (grind (arith, at_here out s k None u j r q, e))
          | inr r ↦ p.taken u j v (sym (at_other out s k None u j r) ∙ e)
        ]
        | inr q ↦ p.taken u j v (sym (at_there out s k None u j q) ∙ e)
      ];
    }

-- a value that is given as it was taken names what is there
pub IsTaskVal-kept : (cpus seats : ℕ) (taken given : TaskVal) → IsTaskVal cpus seats taken → IsKept taken given → given.wake_cpu < cpus → given.dest < cpus → IsTaskVal cpus seats given
IsTaskVal-kept cpus seats taken given p kept wake_cpu dest =
    record {
      mask = λ c h. p.mask c (subst (λ m. HasCpu m c) kept.mask h);
      narrowed = λ c e. p.narrowed c (sym kept.narrowed ∙ e);
      wake_cpu = wake_cpu;
      pending = λ s e. p.pending s (sym kept.pending ∙ e);
      dest = dest;
    }

-- a queue that has the tasks that are queued there names what is there
pub IsQueueVal-given : (tasks : ℕ) (on_rq cpu : ℕ → ℕ) (c : ℕ) (queue : Queue) → ((t : ℕ) → on_rq t ≢ 0 → t < tasks) → IsQueueOf on_rq cpu c queue → ((t : ℕ) → queue.left ≡ Some t → t < tasks)
    → IsQueueVal tasks queue
IsQueueVal-given tasks on_rq cpu c queue queued fits left =
    record {
      waiting = λ t h. queued t (λ z. grind (arith, nat_tests, fits t, h, z));
      cur = λ t e. queued t (λ z. grind (arith, nat_tests, fits t, e, z));
      left = left;
    }
