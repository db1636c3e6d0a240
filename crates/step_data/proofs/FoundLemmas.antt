-- What is found in a list with one element more.
use Rattle.std.proofs.Common.{◌≡◌, ℕ, ◌+◌, ◌<◌, List, [], ◌∷◌, ◌++◌, Bool, refl, sym, ◌∙◌, ap, length, take, get_or}
use Rattle.std.specs.Prelude.{if◌then◌else◌}
use Rattle.std.proofs.lemmas.List.{take_more}
use Rattle.core_data.specs.Found.{found}

pub found-append : {A B : Type 0} (hit : A → Bool) (val : A → B) (d : B) (xs : List A) (x : A) → found hit val d (xs ++ x ∷ []) ≡ (if hit x then val x else found hit val d xs)
found-append hit val d [] x = refl
found-append hit val d (y ∷ xs) x = found-append hit val (if hit y then val y else d) xs x

-- a loop that has gone one element further
pub found_more : {A B : Type 0} (hit : A → Bool) (val : A → B) (d : B) (xs : List A) (i : ℕ) (e : A) (known next : B) → i < length xs
    → next ≡ (if hit (get_or xs i e) then val (get_or xs i e) else known) → known ≡ found hit val d (take i xs) → next ≡ found hit val d (take (i + 1) xs)
found_more hit val d xs i e known next lt n k =
    n ∙ ap (λ b. if hit (get_or xs i e) then val (get_or xs i e) else b) k ∙ sym (ap (λ ys. found hit val d ys) (take_more xs i e lt) ∙ found-append hit val d (take i xs) (get_or xs i e))

pub found_item : {A B : Type 0} (hit : A → Bool) (val : A → B) (d : B) (xs : List A) (i : ℕ) (x : A) (known next : B) → i < length xs → x ≡ get_or xs i x
    → next ≡ (if hit x then val x else known) → known ≡ found hit val d (take i xs) → next ≡ found hit val d (take (i + 1) xs)
found_item hit val d xs i x known next lt is n k = found_more hit val d xs i x known next lt (n ∙ ap (λ y. if hit y then val y else known) is) k
