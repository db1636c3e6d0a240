-- What is read from a source, and what is written to a sink.
use Rattle.std.specs.Prelude.{◌≡◌, ℕ, ◌+◌, ◌≤◌, List, ◌++◌, Option, length, take}
use Rattle.std.specs.Io.KnownBytes.{Appends, Consumes, IsAtEnd}

-- These bytes were read from the front of what the source held: to its end, or to one byte past the limit.
pub record ReadsInput (limit : ℕ) (held left : Option (List ℕ)) (read : List ℕ) : Type 0 where
  pub taken : Consumes held left read
  pub bounded : length read ≤ limit + 1
  pub to_end : length read ≤ limit → IsAtEnd left

-- A part from the front of these bytes was written.
abbrev pub WritesPart : Option (List ℕ) → Option (List ℕ) → List ℕ → Type 0
WritesPart before after bytes = (count : ℕ) × Appends before after (take count bytes)

-- So many bytes were taken from the front of what the source held, and added to those read before.
pub record TakesSome (held left : Option (List ℕ)) (before after : List ℕ) (count : ℕ) : Type 0 where
  pub some : List ℕ
  pub counted : length some ≡ count
  pub taken : Consumes held left some
  pub added : after ≡ before ++ some
