-- What columns read of rows that are all alike.
use Rattle.std.proofs.Common.{◌≡◌, ℕ, zero, suc, ◌<◌, refl, arith}
use Rattle.std.specs.Prelude.{replicate}
use Rattle.core_data.specs.Columns.{column}

-- what holds of a row's word and of the word past the end holds of each word
pub each_word : {A B : Type 0} (P : B → Type 0) (f : A → B) (d : B) (n : ℕ) (x : A) (k : ℕ) → P (f x) → P d → P (column f d (replicate n x) k)
each_word P f d zero x k p q = q
each_word P f d (suc n) x zero p q = p
each_word P f d (suc n) x (suc k) p q = each_word P f d n x k p q

-- the word of a row that is there
pub word_there : {A B : Type 0} (f : A → B) (d : B) (n : ℕ) (x : A) (k : ℕ) → k < n → column f d (replicate n x) k ≡ f x
word_there f d zero x k h = absurd (omega (arith, h))
word_there f d (suc n) x zero h = refl
word_there f d (suc n) x (suc k) h = word_there f d n x k (omega (arith, h))
