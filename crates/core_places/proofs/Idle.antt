-- What holds of tasks whose busy word was read as clear, or that were queued, under the lock of their queue, step by step.
use Rattle.std.proofs.Common.{◌≡◌, ◌≢◌, ℕ, ◌⊎◌, inl, inr, Bool, true, false, Option, Some, None, sym, ap, ◌∙◌, arith}
use Rattle.std.specs.Prelude.{if◌then◌else◌, ◌==◌}
use Rattle.std.proofs.lemmas.Bool.{cases_eq}
use Rattle.std.proofs.lemmas.Bool.Decides.{nat_tests}
use Rattle.core_data.specs.Columns.{put}
use Rattle.core_invariant.proofs.Puts.{put_here, put_there}
use Rattle.core_invariant.specs.Positions.{IdleTasks}

-- what is known of a task that isn't busy, but for the seat that picks it
abbrev IsIdle : (ℕ → Bool) → (ℕ → Option ℕ) → ℕ → ℕ → Type 0
IsIdle on_cpu current s t = (on_cpu t ≡ false) ⊎ (current s ≡ Some t)

-- a fact of a queue that was noted, and of each task that it was of
abbrev HoldsIdle : (ℕ → ℕ) → (ℕ → ℕ) → (ℕ → Bool) → (ℕ → Option ℕ) → (ℕ → Option ℕ) → (ℕ → ℕ → ℕ → Bool) → Type 0
HoldsIdle on_rq cpu on_cpu queue_lock current noted =
    (s c t : ℕ) → queue_lock c ≡ Some s → noted s c t ≡ true → on_rq t ≡ 1 → cpu t ≡ c → IsIdle on_cpu current s t

IdleTasks-taken : (on_rq cpu : ℕ → ℕ) (on_cpu : ℕ → Bool) (queue_lock current : ℕ → Option ℕ) (noted : ℕ → ℕ → ℕ → Bool) (s c : ℕ) → HoldsIdle on_rq cpu on_cpu queue_lock current noted
    → HoldsIdle on_rq cpu on_cpu (put queue_lock c (Some s)) current (put noted s (λ d u. if d == c then false else noted s d u))
IdleTasks-taken on_rq cpu on_cpu queue_lock current noted s c p k d u l h e here =
    p k d u (grind (arith, nat_tests, l, h)) (grind (arith, nat_tests, l, h)) e here

pub IdleTasks-take : (on_rq cpu : ℕ → ℕ) (on_cpu : ℕ → Bool) (queue_lock current : ℕ → Option ℕ) (idle added : ℕ → ℕ → ℕ → Bool) (s c : ℕ) → IdleTasks on_rq cpu on_cpu queue_lock current idle added
    → IdleTasks on_rq cpu on_cpu (put queue_lock c (Some s)) current (put idle s (λ d u. if d == c then false else idle s d u)) (put added s (λ d u. if d == c then false else added s d u))
IdleTasks-take on_rq cpu on_cpu queue_lock current idle added s c p =
    record { read = IdleTasks-taken on_rq cpu on_cpu queue_lock current idle s c p.read; put = IdleTasks-taken on_rq cpu on_cpu queue_lock current added s c p.put }

IdleTasks-given : (on_rq cpu : ℕ → ℕ) (on_cpu : ℕ → Bool) (queue_lock current next : ℕ → Option ℕ) (noted : ℕ → ℕ → ℕ → Bool) (c : ℕ) → HoldsIdle on_rq cpu on_cpu queue_lock current noted
    → ((k u : ℕ) → current k ≡ Some u → (next k ≡ Some u) ⊎ (cpu u ≡ c))
    → HoldsIdle on_rq cpu on_cpu (put queue_lock c None) next noted
IdleTasks-given on_rq cpu on_cpu queue_lock current next noted c p kept k d u l h e here =
    let other : d ≢ c = λ q. grind (arith, nat_tests, l, q) in
    elim (p k d u (sym (put_there queue_lock c None d other) ∙ l) h e here) [
      | inl a ↦ inl a
      | inr a ↦ elim (kept k u a) [ inl n ↦ inr n | inr b ↦ absurd (other (sym here ∙ b)) ]
    ]

-- a queue is given, and with it the current task of its seat may be given up
pub IdleTasks-give : (on_rq cpu : ℕ → ℕ) (on_cpu : ℕ → Bool) (queue_lock current next : ℕ → Option ℕ) (idle added : ℕ → ℕ → ℕ → Bool) (c : ℕ) → IdleTasks on_rq cpu on_cpu queue_lock current idle added
    → ((k u : ℕ) → current k ≡ Some u → (next k ≡ Some u) ⊎ (cpu u ≡ c))
    → IdleTasks on_rq cpu on_cpu (put queue_lock c None) next idle added
IdleTasks-give on_rq cpu on_cpu queue_lock current next idle added c p kept =
    record { read = IdleTasks-given on_rq cpu on_cpu queue_lock current next idle c p.read kept; put = IdleTasks-given on_rq cpu on_cpu queue_lock current next added c p.put kept }

IdleTasks-noted : (on_rq cpu : ℕ → ℕ) (on_cpu : ℕ → Bool) (queue_lock current : ℕ → Option ℕ) (noted : ℕ → ℕ → ℕ → Bool) (s t : ℕ) → HoldsIdle on_rq cpu on_cpu queue_lock current noted
    → on_cpu t ≡ false
    → HoldsIdle on_rq cpu on_cpu queue_lock current (put noted s (λ d u. if u == t then true else noted s d u))
IdleTasks-noted on_rq cpu on_cpu queue_lock current noted s t p idle k d u l h e here =
    elim (cases_eq u t) [ inl q ↦ inl (ap on_cpu q ∙ idle) | inr q ↦ p k d u l (grind (arith, nat_tests, h, q)) e here ]

IdleTasks-queued : (on_rq cpu : ℕ → ℕ) (on_cpu : ℕ → Bool) (queue_lock current : ℕ → Option ℕ) (noted : ℕ → ℕ → ℕ → Bool) (t : ℕ) → HoldsIdle on_rq cpu on_cpu queue_lock current noted
    → on_cpu t ≡ false
    → HoldsIdle (put on_rq t 1) cpu on_cpu queue_lock current noted
IdleTasks-queued on_rq cpu on_cpu queue_lock current noted t p idle k d u l h e here =
    elim (cases_eq u t) [ inl q ↦ inl (ap on_cpu q ∙ idle) | inr q ↦ p k d u l h (sym (put_there on_rq t 1 u q) ∙ e) here ]

-- a task that isn't busy is queued
pub IdleTasks-queue : (on_rq cpu : ℕ → ℕ) (on_cpu : ℕ → Bool) (queue_lock current : ℕ → Option ℕ) (idle added : ℕ → ℕ → ℕ → Bool) (s t : ℕ) → IdleTasks on_rq cpu on_cpu queue_lock current idle added
    → on_cpu t ≡ false
    → IdleTasks (put on_rq t 1) cpu on_cpu queue_lock current idle (put added s (λ d u. if u == t then true else added s d u))
IdleTasks-queue on_rq cpu on_cpu queue_lock current idle added s t p clear =
    record {
      read = IdleTasks-queued on_rq cpu on_cpu queue_lock current idle t p.read clear;
      put = IdleTasks-noted (put on_rq t 1) cpu on_cpu queue_lock current added s t (IdleTasks-queued on_rq cpu on_cpu queue_lock current added t p.put clear) clear;
    }

pub IdleTasks-off : (on_rq cpu : ℕ → ℕ) (on_cpu : ℕ → Bool) (queue_lock current : ℕ → Option ℕ) (idle added : ℕ → ℕ → ℕ → Bool) (t v : ℕ) → IdleTasks on_rq cpu on_cpu queue_lock current idle added
    → v ≢ 1
    → IdleTasks (put on_rq t v) cpu on_cpu queue_lock current idle added
IdleTasks-off on_rq cpu on_cpu queue_lock current idle added t v p off =
    record {
      read = λ k d u l h e here. p.read k d u l h (grind (arith, nat_tests, e, off)) here;
      put = λ k d u l h e here. p.put k d u l h (grind (arith, nat_tests, e, off)) here;
    }

IdleTasks-picked : (on_rq cpu : ℕ → ℕ) (on_cpu : ℕ → Bool) (queue_lock current : ℕ → Option ℕ) (noted : ℕ → ℕ → ℕ → Bool) (s t : ℕ) → HoldsIdle on_rq cpu on_cpu queue_lock current noted
    → queue_lock (cpu t) ≡ Some s → current s ≡ None
    → HoldsIdle on_rq cpu (put on_cpu t true) queue_lock (put current s (Some t)) noted
IdleTasks-picked on_rq cpu on_cpu queue_lock current noted s t p locked none k d u l h e here =
    elim (cases_eq u t) [
      | inl q ↦ let same : k ≡ s = grind (arith, l, ap queue_lock (sym here ∙ ap cpu q), locked) in inr (put_here current s (Some t) k same ∙ ap Some (sym q))
      | inr q ↦ elim (p k d u l h e here) [
        | inl a ↦ inl (put_there on_cpu t true u q ∙ a)
        | inr a ↦ inr (put_there current s (Some t) k (λ z. grind (arith, a, ap current z, none)) ∙ a)
      ]
    ]

-- a seat picks a task of a queue whose lock it has
pub IdleTasks-pick : (on_rq cpu : ℕ → ℕ) (on_cpu : ℕ → Bool) (queue_lock current : ℕ → Option ℕ) (idle added : ℕ → ℕ → ℕ → Bool) (s t : ℕ) → IdleTasks on_rq cpu on_cpu queue_lock current idle added
    → queue_lock (cpu t) ≡ Some s → current s ≡ None
    → IdleTasks on_rq cpu (put on_cpu t true) queue_lock (put current s (Some t)) idle added
IdleTasks-pick on_rq cpu on_cpu queue_lock current idle added s t p locked none =
    record { read = IdleTasks-picked on_rq cpu on_cpu queue_lock current idle s t p.read locked none; put = IdleTasks-picked on_rq cpu on_cpu queue_lock current added s t p.put locked none }

pub IdleTasks-clear : (on_rq cpu : ℕ → ℕ) (on_cpu : ℕ → Bool) (queue_lock current : ℕ → Option ℕ) (idle added : ℕ → ℕ → ℕ → Bool) (t : ℕ) → IdleTasks on_rq cpu on_cpu queue_lock current idle added
    → IdleTasks on_rq cpu (put on_cpu t false) queue_lock current idle added
IdleTasks-clear on_rq cpu on_cpu queue_lock current idle added t p =
    record {
      read = λ k d u l h e here. elim (p.read k d u l h e here) [ inl a ↦ inl (grind (arith, nat_tests, a)) | inr a ↦ inr a ];
      put = λ k d u l h e here. elim (p.put k d u l h e here) [ inl a ↦ inl (grind (arith, nat_tests, a)) | inr a ↦ inr a ];
    }

-- the processor word of a task that isn't queued is stored
pub IdleTasks-cpu : (on_rq cpu : ℕ → ℕ) (on_cpu : ℕ → Bool) (queue_lock current : ℕ → Option ℕ) (idle added : ℕ → ℕ → ℕ → Bool) (t c : ℕ) → IdleTasks on_rq cpu on_cpu queue_lock current idle added
    → on_rq t ≢ 1
    → IdleTasks on_rq (put cpu t c) on_cpu queue_lock current idle added
IdleTasks-cpu on_rq cpu on_cpu queue_lock current idle added t c p off =
    record {
      read = λ k d u l h e here. p.read k d u l h e (grind (arith, nat_tests, here, off, e));
      put = λ k d u l h e here. p.put k d u l h e (grind (arith, nat_tests, here, off, e));
    }

pub IdleTasks-saw_clear : (on_rq cpu : ℕ → ℕ) (on_cpu : ℕ → Bool) (queue_lock current : ℕ → Option ℕ) (idle added : ℕ → ℕ → ℕ → Bool) (s t : ℕ)
    → IdleTasks on_rq cpu on_cpu queue_lock current idle added → on_cpu t ≡ false
    → IdleTasks on_rq cpu on_cpu queue_lock current (put idle s (λ d u. if u == t then true else idle s d u)) added
IdleTasks-saw_clear on_rq cpu on_cpu queue_lock current idle added s t p clear =
    record { read = IdleTasks-noted on_rq cpu on_cpu queue_lock current idle s t p.read clear; put = p.put }
