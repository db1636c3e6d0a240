-- Maps of bytes.
use Rattle.std.specs.Prelude.{◌≡◌, ◌≢◌, ℕ, List, length, map, slice_index_or}
use Rattle.std.specs.List.{range_with_len}

-- what a map makes of a byte, and of a line
abbrev pub mapped_byte : List ℕ → ℕ → ℕ
mapped_byte table byte = slice_index_or table byte byte

abbrev pub mapped_line : List ℕ → List ℕ → List ℕ
mapped_line table line = map (mapped_byte table) line

-- a map of all bytes, which makes a line of each line
pub record IsByteMap (table : List ℕ) : Type 0 where
  pub count : length table ≡ 256
  pub no_feed : (byte : ℕ) → byte ≢ 10 → mapped_byte table byte ≢ 10

-- each byte to itself
unfoldable pub identity_map : List ℕ
identity_map = range_with_len 0 256
