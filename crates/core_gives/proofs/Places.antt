-- What holds at each place of a list.
use Rattle.std.proofs.Common.{◌≡◌, ◌≢◌, ℕ, suc, ◌+◌, ◌<◌, ◌≤◌, ◌⊎◌, inl, inr, List, Option, Some, length, subst, sym, arith}
use Rattle.std.specs.Prelude.{slice_get, IsTrue, ◌↔◌}
use Rattle.std.proofs.lemmas.Bool.{cases_lt}
use Rattle.std.proofs.lemmas.Option.{slice_get_within}
use Rattle.core_data.specs.Queue.{Queue, runnable_count, times_in}
use Rattle.core_gives.proofs.FitsLemmas.{place-of, times-at}

-- what holds at the places below n and at n holds at those below n + 1
pub more : {A : Type 0} (xs : List A) (P : A → Type 0) (n : ℕ) → ((i : ℕ) (x : A) → i < n → slice_get xs i ≡ Some x → P x) → ((x : A) → slice_get xs n ≡ Some x → P x) → (i : ℕ) (x : A) → i < n + 1
    → slice_get xs i ≡ Some x → P x
more xs P n below here i x lt at =
    elim (cases_lt i n) [
      | inl a ↦ below i x a at
      | inr b ↦ let e : i ≡ n = omega (arith, b, lt) in here x (subst (λ j. slice_get xs j ≡ Some x) e at)
    ]

-- and what holds at the places below the number of runnable tasks holds of each task that waits
pub all-waiting : (queue : Queue) (P : ℕ → Type 0) (n : ℕ) → runnable_count queue ≤ n → ((i t : ℕ) → i < n → slice_get queue.waiting i ≡ Some t → P t) → (i t : ℕ) → slice_get queue.waiting i ≡ Some t
    → P t
all-waiting queue P n le below i t at = let lt = slice_get_within queue.waiting i t at in below i t (omega (arith, lt, le)) at

-- what holds at each place holds of each number that stands there
pub each-of : (xs : List ℕ) (P : ℕ → Type 0) → ((i t : ℕ) → slice_get xs i ≡ Some t → P t) → (t : ℕ) → times_in xs t ≢ 0 → P t
each-of xs P at t some = let p = place-of xs t (omega (arith, some)) in at p.0 t p.1

pub of-each : (xs : List ℕ) (P : ℕ → Type 0) → ((t : ℕ) → times_in xs t ≢ 0 → P t) → (i t : ℕ) → slice_get xs i ≡ Some t → P t
of-each xs P all i t at = let some = times-at xs i t at in all t (λ e. omega (arith, some, e))
