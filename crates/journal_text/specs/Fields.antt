-- The fields of a line: words with blanks before them.
use Rattle.std.specs.Prelude.{◌==◌, ◌+◌, ◌-◌, ◌*◌, ◌||◌, ◌&&◌, ◌^◌, ℕ, Bool, not, List, [], ◌∷◌, Option, Some, None}
use Rattle.std.specs.Prelude.{length, take, drop, if◌then◌else◌, nat_lt, nat_le}
use Rattle.std.specs.List.{position_or_len}

-- a space or a tab
abbrev pub is_blank : ℕ → Bool
is_blank b = (b == 32) || (b == 9)

-- how long the word at the front is
unfoldable pub word_len : List ℕ → ℕ
word_len bytes = position_or_len is_blank bytes

-- how many blanks stand at the front
unfoldable pub gap_len : List ℕ → ℕ
gap_len bytes = position_or_len (λ b. not (is_blank b)) bytes

-- the word at the front, and what stands behind it
abbrev pub word_at : List ℕ → List ℕ × List ℕ
word_at bytes = (take (word_len bytes) bytes, drop (word_len bytes) bytes)

-- the next word, behind one blank or more, and what stands behind it
unfoldable pub field_at : List ℕ → Option (List ℕ × List ℕ)
field_at bytes = if gap_len bytes == 0 then None else Some (word_at (drop (gap_len bytes) bytes))

infixl 10 ◌>>=◌
abbrev pub ◌>>=◌ : {A B : Type 0} → Option A → (A → Option B) → Option B
(Some x) >>= f = f x
None >>= f = None

-- an ASCII digit
abbrev pub is_digit : ℕ → Bool
is_digit b = nat_le 48 b && nat_le b 57

-- the number that these digits make behind a number, if it is one of 64 bits
abbrev pub digits_from : ℕ → List ℕ → Option ℕ
digits_from n [] = Some n
digits_from n (b ∷ bytes) =
    if is_digit b && nat_lt (n * 10 + (b - 48)) (2 ^ 64) then digits_from (n * 10 + (b - 48)) bytes else None

-- the number that the word spells, in 1 to 20 digits
unfoldable pub number_of : List ℕ → Option ℕ
number_of word = if nat_lt 0 (length word) && nat_le (length word) 20 then digits_from 0 word else None

-- a value where nothing stands behind it
abbrev pub ended : {A : Type 0} → A → List ℕ → Option A
ended x [] = Some x
ended x (b ∷ bytes) = None

-- the number in the next field
unfoldable pub u64_at : List ℕ → Option (ℕ × List ℕ)
u64_at bytes = do
  word ← field_at bytes
  n ← number_of word.0
  Some (n, word.1)

-- the same, of 32 bits
unfoldable pub u32_at : List ℕ → Option (ℕ × List ℕ)
u32_at bytes = do
  n ← u64_at bytes
  if nat_lt n.0 (2 ^ 32) then Some n else None

-- two numbers, and nothing behind them
unfoldable pub two_of : List ℕ → Option (ℕ × ℕ)
two_of bytes = do
  t ← u32_at bytes
  m ← u64_at t.1
  ended (t.0, m.0) m.1

-- three numbers, and nothing behind them
unfoldable pub three_of : List ℕ → Option (ℕ × ℕ × ℕ)
three_of bytes = do
  t ← u32_at bytes
  m ← u64_at t.1
  c ← u32_at m.1
  ended (t.0, m.0, c.0) c.1

-- one number, and nothing behind it
unfoldable pub one_of : List ℕ → Option ℕ
one_of bytes = do
  n ← u64_at bytes
  ended n.0 n.1
