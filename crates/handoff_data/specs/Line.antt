-- Lines of text.
use Rattle.std.specs.Prelude.{ℕ, List, ◌≢◌, All}

-- bytes without a line feed
abbrev pub IsLine : List ℕ → Type 0
IsLine bytes = All (λ b. b ≢ 10) bytes
