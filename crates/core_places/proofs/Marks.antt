-- What a seat notes of a task, and what it forgets.
use Rattle.std.proofs.Common.{◌≡◌, ◌≢◌, ℕ, ◌⊎◌, inl, inr, Bool, true, false, Option, Some, None, arith}
use Rattle.std.specs.Prelude.{if◌then◌else◌, ◌==◌}
use Rattle.std.proofs.lemmas.Bool.{cases_eq}
use Rattle.std.proofs.lemmas.Bool.Decides.{nat_tests}
use Rattle.core_data.specs.Columns.{put}

-- seat s notes it of task t
abbrev pub mark : (ℕ → ℕ → Bool) → ℕ → ℕ → ℕ → ℕ → Bool
mark f s t = put f s (λ u. if u == t then true else f s u)

-- seat s forgets it of task t
abbrev pub renew : (ℕ → ℕ → Bool) → ℕ → ℕ → ℕ → ℕ → Bool
renew f s t = put f s (λ u. if u == t then false else f s u)

pub marked : (f : ℕ → ℕ → Bool) (s t k u : ℕ) → mark f s t k u ≡ true → (f k u ≡ true) ⊎ ((k ≡ s) × (u ≡ t))
marked f s t k u h =
    elim (cases_eq k s) [
      | inl q ↦ elim (cases_eq u t) [ inl r ↦ inr (q, r) | inr r ↦ inl (grind (arith, nat_tests, h, q, r)) ]
      | inr q ↦ inl (grind (arith, nat_tests, h, q))
    ]

pub mark_keeps : (f : ℕ → ℕ → Bool) (s t k u : ℕ) → f k u ≡ true → mark f s t k u ≡ true
mark_keeps f s t k u h = grind (arith, nat_tests, h)

pub renewed : (f : ℕ → ℕ → Bool) (s t k u : ℕ) → renew f s t k u ≡ true → f k u ≡ true
renewed f s t k u h = grind (arith, nat_tests, h)

pub renewed_other : (f : ℕ → ℕ → Bool) (s t k u : ℕ) → renew f s t k u ≡ true → u ≡ t → k ≢ s
renewed_other f s t k u h q r = grind (arith, nat_tests, h, q, r)

pub renewed_both : (f g : ℕ → ℕ → Bool) (s t k u : ℕ) → renew f s t k u ≡ true → g k u ≡ true → renew g s t k u ≡ true
renewed_both f g s t k u h i = grind (arith, nat_tests, h, i)

-- a lock word after its lock is taken or given
pub lock_taken : (lock : ℕ → Option ℕ) (s t k u : ℕ) → put lock t (Some s) u ≡ Some k → (lock u ≡ Some k) ⊎ ((k ≡ s) × (u ≡ t))
lock_taken lock s t k u h =
    elim (cases_eq u t) [
      | inl q ↦ inr (grind (arith, nat_tests, h, q), q)
      | inr q ↦ inl (grind (arith, nat_tests, h, q))
    ]

pub lock_given : (lock : ℕ → Option ℕ) (t k u : ℕ) → put lock t None u ≡ Some k → lock u ≡ Some k
lock_given lock t k u h = grind (arith, nat_tests, h)

pub lock_given_other : (lock : ℕ → Option ℕ) (t k u : ℕ) → put lock t None u ≡ Some k → u ≢ t
lock_given_other lock t k u h q = grind (arith, nat_tests, h, q)
