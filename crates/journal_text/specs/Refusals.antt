-- What it means that a text is refused on a line.
use Rattle.std.specs.Prelude.{◌≡◌, ◌≢◌, ℕ, List, ◌∷◌, ◌++◌, Ok, Err, length}
use Rattle.std.specs.List.{slice_split}
use Rattle.handoff_data.specs.History.{History}
use Rattle.journal_text.specs.Text.{is_feed, reading}

-- how many lines the text has, the last of them without a line feed
abbrev pub line_count : List ℕ → ℕ
line_count bytes = length (slice_split is_feed bytes)

-- Where a text is refused on a line that a line feed ends, no text is read that begins with the lines up to that one.
abbrev pub RefusedLinesAreFinal : Type 0
RefusedLinesAreFinal =
    (lines rest other : List ℕ) (j : History) → reading (lines ++ (10 ∷ rest)) ≡ Err (line_count lines)
    → reading (lines ++ (10 ∷ other)) ≢ Ok j
