-- Taking a wait queue.
use Rattle.std.proofs.Common.{◌≡◌, ◌≢◌, ℕ, ◌==◌, ◌⊎◌, inl, inr, Bool, true, false, Option, Some, None, sym, ap, ◌∙◌, arith}
use Rattle.std.specs.Prelude.{if◌then◌else◌}
use Rattle.std.proofs.lemmas.Bool.{cases_eq}
use Rattle.std.proofs.lemmas.Bool.Decides.{nat_tests}
use Rattle.core_data.specs.Columns.{Columns, put, put_at}
use Rattle.core_invariant.proofs.Puts.{put_here, put_there}
use Rattle.core_invariant.specs.Invariant.{Holds}
use Rattle.core_invariant.specs.Sleepers.{SleepersHold, IsSafeSleeper, IsSafeBeside}
use Rattle.core_kinds.specs.Locks.{MayTakeWait, take_wait}
use Rattle.core_sleepers.proofs.Plain.{no_some}
use Rattle.core_sleepers.proofs.Safe.{safe-by}

-- what is home after value v was put at l
pub home-put : {A : Type 0} (home : ℕ → Option A) (l : ℕ) (v : Option A) (k : ℕ) (x : A) → put home l v k ≡ Some x → ((k ≡ l) × (v ≡ Some x)) ⊎ ((k ≢ l) × (home k ≡ Some x))
home-put home l v k x h = elim (cases_eq k l) [ inl e ↦ inl (e, sym (put_here home l v k e) ∙ h) | inr e ↦ inr (e, sym (put_there home l v k e) ∙ h) ]

-- what is out after value v was put at s and l
pub out-put : {A : Type 0} (out : ℕ → ℕ → Option A) (s l : ℕ) (v : Option A) (y k : ℕ) (x : A) → put_at out s l v y k ≡ Some x
    → ((y ≡ s) × (k ≡ l) × (v ≡ Some x)) ⊎ (((y ≡ s → k ≢ l)) × (out y k ≡ Some x))
out-put out s l v y k x h =
    elim (cases_eq y s) [
      | inl e ↦ elim (home-put (out s) l v k x (sym (ap (λ f. f k) (put_here out s (put (out s) l v) y e)) ∙ h)) [
        | inl a ↦ inl (e, a.0, a.1)
        | inr a ↦ inr (λ _. a.0, ap (λ z. out z k) e ∙ a.1)
      ]
      | inr e ↦ inr (λ f. absurd (e f), sym (ap (λ f. f k) (put_there out s (put (out s) l v) y e)) ∙ h)
    ]

-- what seat s knows at condition l is forgotten
abbrev pub reset : (ℕ → ℕ → ℕ → Bool) → ℕ → ℕ → ℕ → ℕ → ℕ → Bool
reset f s l = put f s (λ k t. if k == l then false else f s k t)

-- .. and that it has taken the lock is noted
abbrev pub retakes : (ℕ → ℕ → Bool) → ℕ → ℕ → ℕ → ℕ → Bool
retakes f s l = put f s (λ k. if k == l then true else f s k)

reset-true : (f : ℕ → ℕ → ℕ → Bool) (s l x k u : ℕ) → reset f s l x k u ≡ true → (f x k u ≡ true) × (x ≡ s → k ≢ l)
reset-true f s l x k u h = (grind (arith, nat_tests, h), λ p q. grind (arith, nat_tests, h, p, q))

reset-false : (f : ℕ → ℕ → ℕ → Bool) (s l x k u : ℕ) → f x k u ≡ false → reset f s l x k u ≡ false
reset-false f s l x k u h = grind (arith, nat_tests, h)

reset-here : (f : ℕ → ℕ → ℕ → Bool) (s l x k u : ℕ) → x ≡ s → k ≡ l → reset f s l x k u ≡ false
reset-here f s l x k u p q = grind (arith, nat_tests, p, q)

retakes-other : (f : ℕ → ℕ → Bool) (s l x k : ℕ) → (x ≡ s → k ≢ l) → retakes f s l x k ≡ f x k
retakes-other f s l x k h = grind (arith, nat_tests, h)

-- the seat that takes the lock has passed none since
still_owed : (retaken : ℕ → ℕ → Bool) (passed : ℕ → ℕ → ℕ → Bool) (s l x k u : ℕ) → (retaken x k ≡ false) ⊎ (passed x k u ≡ false)
    → (retakes retaken s l x k ≡ false) ⊎ (reset passed s l x k u ≡ false)
still_owed retaken passed s l x k u h =
    elim h [
      | inr p ↦ inr (reset-false passed s l x k u p)
      | inl r ↦ elim (cases_eq x s) [
        | inr e ↦ inl (retakes-other retaken s l x k (λ f. absurd (e f)) ∙ r)
        | inl e ↦ elim (cases_eq k l) [
          | inl f ↦ inr (reset-here passed s l x k u e f)
          | inr f ↦ inl (retakes-other retaken s l x k (λ _. f) ∙ r)
        ]
      ]
    ]

safe-taken : (core : Columns) (s l k u : ℕ) → IsSafeSleeper core k u → IsSafeSleeper (take_wait core s l) k u
safe-taken core s l k u h = safe-by core.state core.cpu core.cond core.tested k u (λ o. inr (inr (o.0, o.1, still_owed core.has_retaken core.has_passed s l o.0 k u o.2))) h

beside-taken : (core : Columns) (s l y k u : ℕ) → k ≢ l → IsSafeBeside core y k u → IsSafeBeside (take_wait core s l) y k u
beside-taken core s l y k u n h =
    safe-by core.state core.cpu core.cond core.tested k u
    (λ o. inr (inr (o.0, o.1, elim o.2 [ inl r ↦ inl (retakes-other core.has_retaken s l o.0 k (λ _. n) ∙ r) | inr p ↦ inr (p.0, reset-false core.has_passed s l o.0 k u p.1) ]))) h

held-other : (wait_lock : ℕ → Option ℕ) (s l k x : ℕ) → put wait_lock l (Some s) k ≡ Some x → ((k ≡ l) × (x ≡ s)) ⊎ ((k ≢ l) × (wait_lock k ≡ Some x))
held-other wait_lock s l k x h = elim (home-put wait_lock l (Some s) k x h) [ inl a ↦ inl (a.0, (let e = a.1 in grind (arith, e))) | inr a ↦ inr a ]

pub SleepersHold-take_wait : (core : Columns) (s k : ℕ) → Holds core → MayTakeWait core s k → SleepersHold (take_wait core s k)
SleepersHold-take_wait core s l holds may =
    let h = holds.sleepers in
    record {
      once = record {
        at_home = λ k v w. elim (home-put core.wait l None k v w) [ inl a ↦ absurd (no_some a.1) | inr a ↦ h.once.at_home k v a.1 ];
        taken = λ x k v w. elim (out-put core.wait_held s l (core.wait l) x k v w) [ inl a ↦ h.once.at_home l v a.2 | inr a ↦ h.once.taken x k v a.1 ];
      };
      safe_home = λ k u entries w e. elim (home-put core.wait l None k entries w) [ inl a ↦ absurd (no_some a.1) | inr a ↦ safe-taken core s l k u (h.safe_home k u entries a.1 e) ];
      safe_out = λ x k u taken w e. elim (out-put core.wait_held s l (core.wait l) x k taken w) [
        | inl a ↦ safe-taken core s l k u (h.safe_home k u taken (ap core.wait a.1 ∙ a.2) e)
        | inr a ↦ safe-taken core s l k u (h.safe_out x k u taken a.1 e)
      ];
      safe_passed = λ x k u w p.
          let r = reset-true core.has_passed s l x k u p in
          elim (held-other core.wait_lock s l k x w) [ inl a ↦ absurd (r.1 a.1 a.0) | inr a ↦ safe-taken core s l k u (h.safe_passed x k u a.1 r.0) ];
      safe_stored = λ x k u w c o.
          let r = reset-true core.has_own_stored s l x k u o in
          elim (held-other core.wait_lock s l k x w) [ inl a ↦ absurd (r.1 a.1 a.0) | inr a ↦ beside-taken core s l x k u a.0 (h.safe_stored x k u a.1 c r.0) ];
      entry_home = λ k u entries a z w. elim (home-put core.wait l None k entries w) [ inl b ↦ absurd (no_some b.1) | inr b ↦ h.entry_home k u entries a z b.1 ];
      entry_out = λ x k u taken a z w. elim (out-put core.wait_held s l (core.wait l) x k taken w) [
        | inl b ↦ h.entry_home k u taken a z (ap core.wait b.1 ∙ b.2)
        | inr b ↦ h.entry_out x k u taken a z b.1
      ];
      passed_awake = λ x k u w p a.
          let r = reset-true core.has_passed s l x k u p in
          elim (held-other core.wait_lock s l k x w) [ inl b ↦ absurd (r.1 b.1 b.0) | inr b ↦ h.passed_awake x k u b.1 r.0 a ];
      fresh_slept = h.fresh_slept;
      fresh_test = h.fresh_test;
    }
