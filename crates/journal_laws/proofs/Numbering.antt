-- Numbers that have each one below them.
use Rattle.std.proofs.Common.{◌≡◌, ℕ, zero, suc, ◌+◌, ◌-◌, ◌≤◌, Option, Some, arith, subst}
use Rattle.handoff_data.specs.declared.entry.Entry.{Entry}
use Rattle.handoff_data.specs.History.{History}
use Rattle.handoff_data.specs.Positions.{IsSomewhere}

-- some entry of t has the number
abbrev pub Has : (Entry → Option (ℕ × ℕ)) → History → ℕ → ℕ → Type 0
Has number_of j t n = (e : Entry) × IsSomewhere j e × (number_of e ≡ Some (t, n))

down-from : (number_of : Entry → Option (ℕ × ℕ)) (j : History) (t : ℕ) → ((n : ℕ) → 1 ≤ n → Has number_of j t (n + 1) → Has number_of j t n) → (k n : ℕ) → 1 ≤ n → Has number_of j t (n + k)
    → Has number_of j t n
down-from number_of j t below zero n some has = subst (λ (m : ℕ). Has number_of j t m) (omega arith) has
down-from number_of j t below (suc k) n some has =
    let same : n + suc k ≡ n + k + 1 = omega arith in
    down-from number_of j t below k n some (below (n + k) (omega arith) (subst (λ (m : ℕ). Has number_of j t m) same has))

-- where each number above 1 has the one below it, all numbers from 1 to the last are there
pub all-below : (number_of : Entry → Option (ℕ × ℕ)) (j : History) (t last : ℕ) → ((n : ℕ) → 1 ≤ n → Has number_of j t (n + 1) → Has number_of j t n) → Has number_of j t last → (n : ℕ) → 1 ≤ n
    → n ≤ last → Has number_of j t n
all-below number_of j t last below has n some within =
    let same : last ≡ n + (last - n) = omega arith in
    down-from number_of j t below (last - n) n some (subst (λ (m : ℕ). Has number_of j t m) same has)
