-- The lines of an input, and their words.
use Rattle.std.specs.Prelude.{ℕ, Bool, true, false, ◌||◌, List, [], ◌∷◌, ◌==◌, if◌then◌else◌, filter}
use Rattle.std.specs.List.{onto_first, slice_split}

-- a line ends with a line feed, which is no part of it; a last piece without one is a line if it isn't empty
abbrev pub input_lines : List ℕ → List (List ℕ)
input_lines [] = []
input_lines (byte ∷ bytes) = if byte == 10 then [] ∷ input_lines bytes else onto_first byte (input_lines bytes)

-- a byte before these, apart from carriage returns at the end
abbrev pub before_returns : ℕ → List ℕ → List ℕ
before_returns byte [] = if byte == 13 then [] else byte ∷ []
before_returns byte (next ∷ bytes) = byte ∷ next ∷ bytes

-- the line without the carriage returns at its end
abbrev pub without_returns : List ℕ → List ℕ
without_returns [] = []
without_returns (byte ∷ bytes) = before_returns byte (without_returns bytes)

-- a space or a tab
abbrev pub is_blank : ℕ → Bool
is_blank byte = byte == 32 || byte == 9

-- the line from its first byte on that isn't blank
abbrev pub skip_blanks : List ℕ → List ℕ
skip_blanks [] = []
skip_blanks (byte ∷ bytes) = if is_blank byte then skip_blanks bytes else byte ∷ bytes

abbrev pub has_bytes : List ℕ → Bool
has_bytes [] = false
has_bytes (byte ∷ bytes) = true

-- the words of a line, which blanks part
abbrev pub words : List ℕ → List (List ℕ)
words line = filter has_bytes (slice_split is_blank line)
