-- A gate beside which the entries of its seat are kept.
use Rattle.std.specs.Prelude.{◌≡◌, ◌-◌, ℕ, Bool, true, false, List, [], ◌∷◌, Option, Some, None, is_some, length, take}
use Rattle.handoff_data.specs.declared.entry.Entry.{Entry}
use Rattle.handoff_data.specs.declared.entry.Entry.TheVariants as entry
use Rattle.run_cells.specs.Telling.{told_after, list_of}

-- the gate, if there is one, and the entries that were kept
pub record Keeping (G : Type 0) : Type 0 where
  pub gate : Option G
  pub entries : List Entry

-- nothing is kept yet
abbrev pub fresh : {G : Type 0} → Option G → Keeping G
fresh gate = record { gate = gate; entries = [] }

-- what the gate's list was before it was told so many entries
abbrev pub begun_of : Option (List Entry) → List Entry → Option (List Entry)
begun_of None entries = None
begun_of (Some list) entries = Some (take (length list - length entries) list)

-- the gate was told all that was kept, and nothing else since then
abbrev pub Follows : {G : Type 0} → (G → Option (List Entry)) → Keeping G → Type 0
Follows told kept =
    list_of told kept.gate ≡ told_after (begun_of (list_of told kept.gate) kept.entries) kept.entries

-- ---- one list that says whether there is a gate, what its list was at first, and what was kept

-- two entries that differ
abbrev pub mark : Bool → Entry
mark true = entry.Up 0 0
mark false = entry.Done 0 0

-- a list, of which each entry stands behind a mark, and then others
abbrev pub spelled_list : List Entry → List Entry → List Entry
spelled_list [] others = mark false ∷ others
spelled_list (x ∷ list) others = mark true ∷ x ∷ spelled_list list others

abbrev pub spelled_begun : Option (List Entry) → List Entry → List Entry
spelled_begun None others = mark false ∷ others
spelled_begun (Some list) others = mark true ∷ spelled_list list others

-- What was kept stands at the end, so it grows as a list does that is told. All before it stays as it was at first.
abbrev pub spelled_told : {G : Type 0} → (G → Option (List Entry)) → Keeping G → Option (List Entry)
spelled_told told kept =
    Some (mark (is_some kept.gate) ∷ spelled_begun (begun_of (list_of told kept.gate) kept.entries) kept.entries)
