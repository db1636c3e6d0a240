-- How things are dealt to so many places in turn: the one with the number s to the place s mod count.
use Rattle.std.specs.Prelude.{ℕ, suc, ◌%◌, ◌++◌, List, [], ◌∷◌, replicate, slice_set, slice_index_or}

-- one more at the end of a row
abbrev pub with_last : {A : Type 0} → List (List A) → ℕ → A → List (List A)
with_last rows i x = slice_set rows i (slice_index_or rows i [] ++ x ∷ [])

-- the rows of the places once these were dealt, from the last one down; the first of them has the number s
unfoldable pub dealt : {A : Type 0} → ℕ → ℕ → List A → List (List A)
dealt count s [] = replicate count []
dealt count s (x ∷ xs) = with_last (dealt count (suc s) xs) (s % count) x
