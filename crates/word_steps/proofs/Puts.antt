-- A word that is put, and the others; a trace with one step more, and the others.
use Rattle.std.proofs.Common.{◌≡◌, ◌≢◌, ℕ, inl, inr, refl, sym, ap, ◌∙◌, List, ◌∷◌}
use Rattle.std.proofs.lemmas.Bool.{cases_eq}
use Rattle.core_data.specs.Columns.{put, put_at}
use Rattle.core_stores.proofs.Columns.{put_there, put_other, put_self}
use Rattle.word_steps.specs.Records.{Rec}

pub word_here : (words : ℕ → ℕ → ℕ) (n c x : ℕ) → put_at words n c x n c ≡ x
word_here words n c x = ap (λ (f : ℕ → ℕ). f c) (put_there words n (put (words n) c x) n refl) ∙ put_there (words n) c x c refl

-- of another number
pub word_apart : (words : ℕ → ℕ → ℕ) (n c x m d : ℕ) → m ≢ n → put_at words n c x m d ≡ words m d
word_apart words n c x m d ne = ap (λ (f : ℕ → ℕ). f d) (put_other words n (put (words n) c x) m ne)

-- of another column
pub word_beside : (words : ℕ → ℕ → ℕ) (n c x m d : ℕ) → d ≢ c → put_at words n c x m d ≡ words m d
word_beside words n c x m d ne = elim (cases_eq m n) [
  | inl e ↦ ap (λ (f : ℕ → ℕ). f d) (put_there words n (put (words n) c x) m e) ∙ put_other (words n) c x d ne ∙ ap (λ (k : ℕ). words k d) (sym e)
  | inr apart ↦ word_apart words n c x m d apart
]

-- a word that is put as it is
pub word_same : (words : ℕ → ℕ → ℕ) (n c : ℕ) → put_at words n c (words n c) ≡ words
word_same words n c = ap (put words n) (put_self (words n) c) ∙ put_self words n

-- what a fold tells of the seat that made the step, and of another
pub fold_here : {A : Type 0} (fold : List Rec → A) (traces : ℕ → List Rec) (s : ℕ) (r : Rec) (j : ℕ) → j ≡ s → fold (put traces s (r ∷ traces s) j) ≡ fold (r ∷ traces s)
fold_here fold traces s r j e = ap fold (put_there traces s (r ∷ traces s) j e)

pub fold_else : {A : Type 0} (fold : List Rec → A) (traces : ℕ → List Rec) (s : ℕ) (r : Rec) (j : ℕ) → j ≢ s → fold (put traces s (r ∷ traces s) j) ≡ fold (traces j)
fold_else fold traces s r j ne = ap fold (put_other traces s (r ∷ traces s) j ne)
