-- What a whole text says: journals, or the first line that may not stand where it does.
use Rattle.std.specs.Prelude.{◌≡◌, ◌==◌, ◌+◌, ◌-◌, ℕ, Bool, List, [], ◌∷◌, Option, Some, None, Result, Ok, Err, length}
use Rattle.std.specs.Prelude.{nat_lt, nat_le, if◌then◌else◌}
use Rattle.std.specs.List.{slice_split, sum_by}
use Rattle.handoff_data.specs.declared.entry.Entry.{Entry}
use Rattle.handoff_data.specs.History.{History}
use Rattle.journal_text.specs.declared.heading.Stage.{Stage}
use Rattle.journal_text.specs.declared.heading.Stage.TheVariants as stage
use Rattle.journal_text.specs.declared.reading.JournalError.{JournalError}
use Rattle.journal_text.specs.declared.reading.JournalError.TheVariants as errors
use Rattle.journal_text.specs.Lines.{Progress, line_after}

abbrev pub is_feed : ℕ → Bool
is_feed b = b == 10

-- a text may have this many bytes
abbrev pub byte_limit : ℕ
byte_limit = 268435456

-- before the first line
abbrev pub blank_progress : Progress
blank_progress = record {
  heading = record { stage = stage.Version; cpus = 0; tasks = 0; seats = 0 };
  whole = [];
  entries = [];
}

abbrev pub history_at : Stage → Progress → ℕ → Result History ℕ
history_at stage.Done p line = Ok (record { cpus = p.heading.cpus; tasks = p.heading.tasks; seats = p.whole })
history_at _ p line = Err line

-- the journals that the lines have said, where `end` was the last of them that isn't blank; else `end` is missing
-- on this line
unfoldable pub history_of : Progress → ℕ → Result History ℕ
history_of p line = history_at p.heading.stage p line

-- what the text says that goes on so, where this line may stand; else the fault is this line
abbrev pub then_on : ℕ → Option Progress → (Progress → Result History ℕ) → Result History ℕ
then_on line None on = Err line
then_on line (Some p) on = on p

-- what a text says that ends with this line, which has no line feed, where so many bytes are left of the limit. No
-- byte is no line.
unfoldable pub last_of : ℕ → ℕ → Progress → List ℕ → Result History ℕ
last_of line room p text =
    if length text == 0 then history_of p line
    else if nat_lt room (length text) then Err line
    else then_on line (line_after p text) (λ q. history_of q (line + 1))

-- the same, with further lines
abbrev pub lines_from : ℕ → ℕ → Progress → List ℕ → List (List ℕ) → Result History ℕ
lines_from line room p text [] = last_of line room p text
lines_from line room p text (next ∷ texts) =
    if nat_le room (length text) then Err line
    else then_on line (line_after p text) (λ q. lines_from (line + 1) (room - (length text + 1)) q next texts)

abbrev pub parts_from : ℕ → ℕ → Progress → List (List ℕ) → Result History ℕ
parts_from line room p [] = Err line
parts_from line room p (text ∷ texts) = lines_from line room p text texts

-- what the text says: its lines are what stands between the line feeds
unfoldable pub reading : List ℕ → Result History ℕ
reading bytes = parts_from 1 byte_limit blank_progress (slice_split is_feed bytes)

-- the error is this fault, or want of memory
abbrev pub IsFault : JournalError → Result History ℕ → Type 0
IsFault (errors.Text line) said = said ≡ Err line
IsFault errors.NoMemory said = Unit {0}

-- how many entries these journals have
abbrev pub entries_in : List (List Entry) → ℕ
entries_in seats = sum_by (λ (entries : List Entry). length entries) seats

-- how many entries the journals have
abbrev pub entry_count : History → ℕ
entry_count j = entries_in j.seats
