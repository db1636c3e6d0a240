-- A write in the flat list of words is a put at its number and column.
use Rattle.std.proofs.Common.{◌≡◌, ◌≢◌, ℕ, ◌+◌, ◌*◌, ◌<◌, ◌≤◌, inl, inr, List, length, get_or, sym, ap, ◌∙◌, lt-ltb, le-ltb, arith}
use Rattle.std.proofs.Math.ListN.{set}
use Rattle.std.proofs.lemmas.Bool.{cases_eq, cases_lt}
use Rattle.std.proofs.lemmas.List.{get_or-set_same, get_or-set_other}
use mathlib.Core.Path.{fun_ext}
use Rattle.core_data.specs.Columns.{put, put_at}
use Rattle.core_stores.proofs.Columns.{put_there, put_other}
use Rattle.word_steps.specs.Words.{words_of}

within : (words : List ℕ) (n c : ℕ) → c < 64 → words_of words n c ≡ get_or words (64 * n + c) 0
within words n c h = rw (lt-ltb c 64 h)

past : (words : List ℕ) (n c : ℕ) → 64 ≤ c → words_of words n c ≡ 0
past words n c h = rw (le-ltb c 64 h)

-- another word
other : (words : List ℕ) (n c x m d : ℕ) → c < 64 → 64 * m + d ≢ 64 * n + c → words_of (set words (64 * n + c) x) m d ≡ words_of words m d
other words n c x m d low ne = elim (cases_lt d 64) [
  | inl h ↦ within (set words (64 * n + c) x) m d h ∙ get_or-set_other words (64 * n + c) (64 * m + d) x 0 ne ∙ sym (within words m d h)
  | inr h ↦ past (set words (64 * n + c) x) m d h ∙ sym (past words m d h)
]

-- a column past the last shows nothing
other_column : (words : List ℕ) (n c x d : ℕ) → c < 64 → d ≢ c → words_of (set words (64 * n + c) x) n d ≡ words_of words n d
other_column words n c x d low ne = other words n c x n d low (λ e. ne (omega (arith, e)))

other_number : (words : List ℕ) (n c x m : ℕ) → c < 64 → m ≢ n → (d : ℕ) → words_of (set words (64 * n + c) x) m d ≡ words_of words m d
other_number words n c x m low ne d = elim (cases_lt d 64) [
  | inl h ↦ other words n c x m d low (λ e. ne (omega (arith, e, h, low)))
  | inr h ↦ past (set words (64 * n + c) x) m d h ∙ sym (past words m d h)
]

here : (words : List ℕ) (n c x : ℕ) → c < 64 → 64 * n + c < length words → (d : ℕ) → words_of (set words (64 * n + c) x) n d ≡ put (words_of words n) c x d
here words n c x low fits d = elim (cases_eq d c) [
  | inl e ↦ ap (words_of (set words (64 * n + c) x) n) e ∙ within (set words (64 * n + c) x) n c low ∙ get_or-set_same words (64 * n + c) x 0 fits ∙ sym (put_there (words_of words n) c x d e)
  | inr ne ↦ other_column words n c x d low ne ∙ sym (put_other (words_of words n) c x d ne)
]

pub words_of-set : (words : List ℕ) (n c x : ℕ) → c < 64 → 64 * n + c < length words → words_of (set words (64 * n + c) x) ≡ put_at (words_of words) n c x
words_of-set words n c x low fits = fun_ext (λ m. elim (cases_eq m n) [
  | inl e ↦ ap (words_of (set words (64 * n + c) x)) e ∙ fun_ext (here words n c x low fits) ∙ sym (put_there (words_of words) n (put (words_of words n) c x) m e)
  | inr ne ↦ fun_ext (other_number words n c x m low ne) ∙ sym (put_other (words_of words) n (put (words_of words n) c x) m ne)
])
