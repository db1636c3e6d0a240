-- Tests of wait entries.
use Rattle.std.proofs.Common.{◌≡◌, ℕ, ◌+◌, ◌<◌, ◌++◌, ◌∷◌, [], List, Bool, true, false, refl, sym, ap, ◌∙◌, length, take, get_or}
use Rattle.std.specs.Prelude.{if◌then◌else◌}
use Rattle.std.proofs.lemmas.List.{take_more}
use Rattle.core_data.specs.Entries.{any_from}

any_from-append : {A : Type 0} (p : A → Bool) (known : Bool) (xs ys : List A) → any_from p known (xs ++ ys) ≡ any_from p (any_from p known xs) ys
any_from-append p known [] ys = refl
any_from-append p known (x ∷ xs) ys = any_from-append p (if p x then true else known) xs ys

-- one element further along the list
pub any_from_more : {A : Type 0} (p : A → Bool) (xs : List A) (i : ℕ) (d : A) → i < length xs → any_from p false (take (i + 1) xs) ≡ (if p (get_or xs i d) then true else any_from p false (take i xs))
any_from_more p xs i d lt = ap (λ ys. any_from p false ys) (take_more xs i d lt) ∙ any_from-append p false (take i xs) (get_or xs i d ∷ [])

-- a loop that joins what it has found with the next test
pub found_more : {A : Type 0} (p : A → Bool) (xs : List A) (i : ℕ) (d : A) (test known next : Bool) → i < length xs → next ≡ (if test then true else known)
    → test ≡ p (get_or xs i d) → known ≡ any_from p false (take i xs) → next ≡ any_from p false (take (i + 1) xs)
found_more p xs i d test known next lt n t k =
    n ∙ ap (λ (b : Bool). if b then true else known) t ∙ ap (λ (b : Bool). if p (get_or xs i d) then true else b) k ∙ sym (any_from_more p xs i d lt)
