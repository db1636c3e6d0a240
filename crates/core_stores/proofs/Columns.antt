-- A column of a list, after a write.
use Rattle.std.proofs.Common.{◌≡◌, ◌≢◌, ℕ, zero, suc, ◌<◌, inl, inr, List, [], ◌∷◌, length, get_or, refl, sym, ◌∙◌, ap, arith}
use Rattle.std.proofs.Math.ListN.{set}
use Rattle.std.proofs.lemmas.Bool.{cases_eq}
use Rattle.std.proofs.lemmas.Bool.Decides.{nat_tests}
use mathlib.Core.Path.{fun_ext}
use Rattle.core_data.specs.Columns.{put, column}

-- what is put is found there
pub put_there : {A : Type 0} (f : ℕ → A) (k : ℕ) (v : A) (j : ℕ) → j ≡ k → put f k v j ≡ v
put_there f k v j e = grind (arith, nat_tests)

-- and elsewhere nothing changes
pub put_other : {A : Type 0} (f : ℕ → A) (k : ℕ) (v : A) (j : ℕ) → j ≢ k → put f k v j ≡ f j
put_other f k v j e = grind (arith, nat_tests)

-- a put of what is there changes nothing
pub put_id : {A : Type 0} (f : ℕ → A) (k : ℕ) (v : A) → v ≡ f k → put f k v ≡ f
put_id f k v e = fun_ext (λ j. elim (cases_eq j k) [ inl h ↦ put_there f k v j h ∙ e ∙ ap f (sym h) | inr h ↦ put_other f k v j h ])

pub put_self : {A : Type 0} (f : ℕ → A) (k : ℕ) → put f k (f k) ≡ f
put_self f k = put_id f k (f k) refl

column-set_at : {A B : Type 0} (f : A → B) (d : B) (xs : List A) (k : ℕ) (w : A) → k < length xs → column f d (set xs k w) k ≡ f w
column-set_at f d [] k w h = absurd (omega arith)
column-set_at f d (x ∷ xs) zero w h = refl
column-set_at f d (x ∷ xs) (suc k) w h = column-set_at f d xs k w (omega arith)

column-set_other : {A B : Type 0} (f : A → B) (d : B) (xs : List A) (k : ℕ) (w : A) (j : ℕ) → j ≢ k → column f d (set xs k w) j ≡ column f d xs j
column-set_other f d [] k w j h = refl
column-set_other f d (x ∷ xs) zero w zero h = absurd (h refl)
column-set_other f d (x ∷ xs) zero w (suc j) h = refl
column-set_other f d (x ∷ xs) (suc k) w zero h = refl
column-set_other f d (x ∷ xs) (suc k) w (suc j) h = column-set_other f d xs k w j (λ e. h (ap suc e))

-- a write of an element puts what f reads of it
pub column-set : {A B : Type 0} (f : A → B) (d : B) (xs : List A) (k : ℕ) (w : A) → k < length xs → column f d (set xs k w) ≡ put (column f d xs) k (f w)
column-set f d xs k w h =
    fun_ext (λ j. elim (cases_eq j k) [
      | inl e ↦ ap (column f d (set xs k w)) e ∙ column-set_at f d xs k w h ∙ sym (put_there (column f d xs) k (f w) j e)
      | inr e ↦ column-set_other f d xs k w j e ∙ sym (put_other (column f d xs) k (f w) j e)
    ])

-- what a column has at the place of an element
pub column-get : {A B : Type 0} (f : A → B) (d : B) (xs : List A) (k : ℕ) (w : A) → k < length xs → w ≡ get_or xs k w → column f d xs k ≡ f w
column-get f d xs k w h e = column-get_or f d xs k w h ∙ ap f (sym e)
  where
    column-get_or : {A B : Type 0} (f : A → B) (d : B) (xs : List A) (k : ℕ) (e : A) → k < length xs → column f d xs k ≡ f (get_or xs k e)
    column-get_or f d [] k e h = absurd (omega arith)
    column-get_or f d (x ∷ xs) zero e h = refl
    column-get_or f d (x ∷ xs) (suc k) e h = column-get_or f d xs k e (omega arith)

-- a put of what an element has changes nothing
pub column-put : {A B : Type 0} (f : A → B) (d : B) (xs : List A) (k : ℕ) (w : A) → k < length xs → w ≡ get_or xs k w → put (column f d xs) k (f w) ≡ column f d xs
column-put f d xs k w h e = put_id (column f d xs) k (f w) (sym (column-get f d xs k w h e))
