-- What keeps a sleeper safe, word by word.
use Rattle.std.proofs.Common.{◌≡◌, ◌≢◌, ℕ, ◌==◌, ◌&&◌, ◌⊎◌, inl, inr, Bool, true, Option, Some, None, sym, ap, subst, ◌∙◌, arith}
use Rattle.std.specs.Prelude.{if◌then◌else◌}
use Rattle.std.proofs.lemmas.Bool.{cases_eq}
use Rattle.std.proofs.lemmas.Bool.Decides.{nat_tests}
use Rattle.core_data.specs.Columns.{put}
use Rattle.core_invariant.proofs.Puts.{put_here, put_there}
use Rattle.core_invariant.specs.Sleepers.{IsAwake, IsOwed, IsOwedBeside, IsTestRight}
use Rattle.handoff_data.specs.declared.state.State.{State}

-- awake, or with a right test, or whatever O says
abbrev pub IsSafeOr : Type 0 → (ℕ → State) → (ℕ → ℕ) → (ℕ → ℕ) → (ℕ → ℕ → ℕ → Option ℕ) → ℕ → ℕ → Type 0
IsSafeOr O state cpu cond test k t = IsAwake (state t) ⊎ (IsTestRight cpu cond test k t ⊎ O)

-- t is safe whatever is owed
pub safe-here : {O : Type 0} (state : ℕ → State) (cpu cond : ℕ → ℕ) (test : ℕ → ℕ → ℕ → Option ℕ) (t k u : ℕ) → u ≡ t → IsAwake (state t) ⊎ (test (cpu t) t k ≡ None)
    → IsSafeOr O state cpu cond test k u
safe-here state cpu cond test t k u e n =
    elim n [
      | inl a ↦ inl (subst (λ x. IsAwake (state x)) (sym e) a)
      | inr r ↦ inr (inl (inl (ap (λ x. test (cpu x) x k) e ∙ r)))
    ]

-- a seat forgets what t tested
abbrev pub forgot : (ℕ → ℕ → ℕ → Option ℕ) → ℕ → ℕ → ℕ → ℕ → ℕ → Option ℕ
forgot test s t = put test s (λ u l. if u == t then None else test s u l)

forgot-at : (test : ℕ → ℕ → ℕ → Option ℕ) (s t x u l : ℕ) → (forgot test s t x u l ≡ None) ⊎ (forgot test s t x u l ≡ test x u l)
forgot-at test s t x u l = grind (arith, nat_tests)

pub forgot-here : (test : ℕ → ℕ → ℕ → Option ℕ) (s t l : ℕ) → forgot test s t s t l ≡ None
forgot-here test s t l = grind (arith, nat_tests)

pub forgot-none : (test : ℕ → ℕ → ℕ → Option ℕ) (s t x u l : ℕ) → test x u l ≡ None → forgot test s t x u l ≡ None
forgot-none test s t x u l h = grind (arith, nat_tests, h)

pub safe-forgot : {O : Type 0} (state : ℕ → State) (cpu cond : ℕ → ℕ) (test : ℕ → ℕ → ℕ → Option ℕ) (s t k u : ℕ) → IsSafeOr O state cpu cond test k u → IsSafeOr O state cpu cond (forgot test s t) k u
safe-forgot state cpu cond test s t k u h =
    elim h [
      | inl a ↦ inl a
      | inr (inl r) ↦ inr (inl (elim (forgot-at test s t (cpu u) u k) [ inl n ↦ inl n | inr e ↦ elim r [ inl n ↦ inl (e ∙ n) | inr v ↦ inr (e ∙ v) ] ]))
      | inr (inr o) ↦ inr (inr o)
    ]

-- t stores a state, which is awake or comes without a test
pub safe-stated : {O : Type 0} (state : ℕ → State) (cpu cond : ℕ → ℕ) (test : ℕ → ℕ → ℕ → Option ℕ) (t : ℕ) (new : State) (k u : ℕ)
    → IsAwake new ⊎ (test (cpu t) t k ≡ None) → IsSafeOr O state cpu cond test k u → IsSafeOr O (put state t new) cpu cond test k u
safe-stated state cpu cond test t new k u n h =
    elim (cases_eq u t) [
      | inl e ↦ elim n [
        | inl a ↦ inl (subst (λ x. IsAwake x) (sym (put_here state t new u e)) a)
        | inr r ↦ inr (inl (inl (ap (λ x. test (cpu x) x k) e ∙ r)))
      ]
      | inr e ↦ elim h [
        | inl a ↦ inl (subst (λ x. IsAwake x) (sym (put_there state t new u e)) a)
        | inr r ↦ inr r
      ]
    ]

-- the processor of t changes, which is awake or was never tested
pub safe-moved : {O : Type 0} (state : ℕ → State) (cpu cond : ℕ → ℕ) (test : ℕ → ℕ → ℕ → Option ℕ) (t c k u : ℕ)
    → IsAwake (state t) ⊎ (test c t k ≡ None) → IsSafeOr O state cpu cond test k u → IsSafeOr O state (put cpu t c) cond test k u
safe-moved {O = O} state cpu cond test t c k u n h =
    elim (cases_eq u t) [
      | inl e ↦ elim n [
        | inl a ↦ inl (subst (λ x. IsAwake (state x)) (sym e) a)
        | inr r ↦ inr (inl (inl (ap (λ x. test x u k) (put_here cpu t c u e) ∙ ap (λ x. test c x k) e ∙ r)))
      ]
      | inr e ↦ subst (λ x. IsAwake (state u) ⊎ (((test x u k ≡ None) ⊎ (test x u k ≡ Some (cond k))) ⊎ O)) (sym (put_there cpu t c u e)) h
    ]

-- t tests condition l
abbrev pub tested : (ℕ → ℕ → ℕ → Option ℕ) → (ℕ → ℕ) → ℕ → ℕ → ℕ → ℕ → ℕ → ℕ → Option ℕ
tested test cond s t l = put test s (λ u k. if (u == t) && (k == l) then Some (cond l) else test s u k)

tested-at : (test : ℕ → ℕ → ℕ → Option ℕ) (cond : ℕ → ℕ) (s t l x u k : ℕ) → (tested test cond s t l x u k ≡ Some (cond k)) ⊎ (tested test cond s t l x u k ≡ test x u k)
tested-at test cond s t l x u k = grind (arith, nat_tests)

pub tested-other : (test : ℕ → ℕ → ℕ → Option ℕ) (cond : ℕ → ℕ) (s t l x u k : ℕ) → (x ≡ s → u ≡ t → ⊥) → tested test cond s t l x u k ≡ test x u k
tested-other test cond s t l x u k h = grind (arith, nat_tests, h)

pub safe-tested : {O : Type 0} (state : ℕ → State) (cpu cond : ℕ → ℕ) (test : ℕ → ℕ → ℕ → Option ℕ) (s t l k u : ℕ) → IsSafeOr O state cpu cond test k u
    → IsSafeOr O state cpu cond (tested test cond s t l) k u
safe-tested state cpu cond test s t l k u h =
    elim h [
      | inl a ↦ inl a
      | inr (inl r) ↦ inr (inl (elim (tested-at test cond s t l (cpu u) u k) [ inl v ↦ inr v | inr e ↦ elim r [ inl n ↦ inl (e ∙ n) | inr v ↦ inr (e ∙ v) ] ]))
      | inr (inr o) ↦ inr (inr o)
    ]

-- what is owed may change
pub safe-by : {O P : Type 0} (state : ℕ → State) (cpu cond : ℕ → ℕ) (test : ℕ → ℕ → ℕ → Option ℕ) (k u : ℕ)
    → (O → IsSafeOr P state cpu cond test k u) → IsSafeOr O state cpu cond test k u → IsSafeOr P state cpu cond test k u
safe-by state cpu cond test k u f h = elim h [ inl a ↦ inl a | inr (inl r) ↦ inr (inl r) | inr (inr o) ↦ f o ]

-- a seat passes t
abbrev pub passing : (ℕ → ℕ → ℕ → Bool) → ℕ → ℕ → ℕ → ℕ → ℕ → Bool
passing passed s t = put passed s (λ k u. if u == t then true else passed s k u)

pub passing-other : (passed : ℕ → ℕ → ℕ → Bool) (s t x k u : ℕ) → u ≢ t → passing passed s t x k u ≡ passed x k u
passing-other passed s t x k u h = grind (arith, nat_tests, h)

-- a task that is safe whatever is owed may be passed
pub safe-passing : (state : ℕ → State) (cpu cond : ℕ → ℕ) (test : ℕ → ℕ → ℕ → Option ℕ) (owes retaken : ℕ → ℕ → Bool) (passed : ℕ → ℕ → ℕ → Bool) (s t k u : ℕ)
    → IsAwake (state t) ⊎ (test (cpu t) t k ≡ None) → IsSafeOr (IsOwed owes retaken passed k u) state cpu cond test k u
    → IsSafeOr (IsOwed owes retaken (passing passed s t) k u) state cpu cond test k u
safe-passing state cpu cond test owes retaken passed s t k u n h =
    elim (cases_eq u t) [
      | inl e ↦ safe-here state cpu cond test t k u e n
      | inr e ↦ safe-by state cpu cond test k u (λ o. inr (inr (o.0, o.1, elim o.2 [ inl r ↦ inl r | inr p ↦ inr (passing-other passed s t o.0 k u e ∙ p) ]))) h
    ]

pub beside-passing : (state : ℕ → State) (cpu cond : ℕ → ℕ) (test : ℕ → ℕ → ℕ → Option ℕ) (owes retaken : ℕ → ℕ → Bool) (passed : ℕ → ℕ → ℕ → Bool) (s t y k u : ℕ)
    → IsAwake (state t) ⊎ (test (cpu t) t k ≡ None) → IsSafeOr (IsOwedBeside owes retaken passed y k u) state cpu cond test k u
    → IsSafeOr (IsOwedBeside owes retaken (passing passed s t) y k u) state cpu cond test k u
beside-passing state cpu cond test owes retaken passed s t y k u n h =
    elim (cases_eq u t) [
      | inl e ↦ safe-here state cpu cond test t k u e n
      | inr e ↦ safe-by state cpu cond test k u (λ o. inr (inr (o.0, o.1, elim o.2 [ inl r ↦ inl r | inr p ↦ inr (p.0, passing-other passed s t o.0 k u e ∙ p.1) ]))) h
    ]
