-- Lists whose fronts are the same.
use Rattle.std.proofs.Common.{◌≡◌, ℕ, ◌+◌, ◌<◌, List, [], ◌∷◌, ◌++◌, length, get_or, take, Some, sym, ap, ◌∙◌}
use Rattle.std.specs.Prelude.{slice_get}
use Rattle.std.proofs.lemmas.List.{take_more}
use Rattle.std.proofs.lemmas.Option.{slice_get_within, get_or_from_slice_get}

module _ {X : Type 0} where
  one_more : (xs : List X) (i : ℕ) (x : X) → slice_get xs i ≡ Some x → take (i + 1) xs ≡ take i xs ++ x ∷ []
  one_more xs i x e = take_more xs i x (slice_get_within xs i x e) ∙ ap (λ (z : X). take i xs ++ z ∷ []) (get_or_from_slice_get xs i x x e)

  both_more : (xs ys : List X) (x y : X) → xs ≡ ys → x ≡ y → xs ++ x ∷ [] ≡ ys ++ y ∷ []
  both_more xs ys x y e f = λ i. e i ++ f i ∷ []

  pub more_same : (xs ys : List X) (i : ℕ) (x y : X) → take i xs ≡ take i ys → slice_get xs i ≡ Some x → slice_get ys i ≡ Some y → x ≡ y
      → take (i + 1) xs ≡ take (i + 1) ys
  more_same xs ys i x y same e f is = one_more xs i x e ∙ both_more (take i xs) (take i ys) x y same is ∙ sym (one_more ys i y f)

  pub more_same_at : (xs ys : List X) (i : ℕ) (d : X) → take i xs ≡ take i ys → i < length xs → i < length ys → get_or xs i d ≡ get_or ys i d
      → take (i + 1) xs ≡ take (i + 1) ys
  more_same_at xs ys i d same l m is =
      take_more xs i d l ∙ both_more (take i xs) (take i ys) (get_or xs i d) (get_or ys i d) same is ∙ sym (take_more ys i d m)

pub ruleset equal_laws = (more_same, more_same_at)
