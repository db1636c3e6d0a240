-- Where entries stand in the journals.
use Rattle.std.specs.Prelude.{◌≡◌, ◌<◌, ◌⊎◌, ℕ, Option, Some, slice_get}
use Rattle.std.specs.Option.{option_and_then}
use Rattle.handoff_data.specs.declared.entry.Entry.{Entry}
use Rattle.handoff_data.specs.History.{History}

-- what stands at an index of a seat's journal
abbrev pub entry_at : History → ℕ → ℕ → Option Entry
entry_at j seat index = option_and_then (λ journal. slice_get journal index) (slice_get j.seats seat)

-- the entry stands there
pub record Stands (j : History) (seat index : ℕ) (entry : Entry) : Type 0 where
  pub at : entry_at j seat index ≡ Some entry

-- the journal of this seat has the entry
abbrev pub IsIn : History → ℕ → Entry → Type 0
IsIn j seat entry = (index : ℕ) × Stands j seat index entry

-- the journal of this seat has the entry before the index
abbrev pub IsBefore : History → ℕ → ℕ → Entry → Type 0
IsBefore j seat index entry = (before : ℕ) × (before < index) × Stands j seat before entry

-- some journal has the entry
abbrev pub IsSomewhere : History → Entry → Type 0
IsSomewhere j entry = (seat : ℕ) × IsIn j seat entry

-- the first position is that of a smaller seat, or of the same seat and a smaller index
abbrev pub IsEarlier : ℕ → ℕ → ℕ → ℕ → Type 0
IsEarlier seat index seat' index' = (seat < seat') ⊎ ((seat ≡ seat') × (index < index'))
