-- What one line adds to what a text has said so far.
use Rattle.std.specs.Prelude.{◌==◌, ◌+◌, ◌-◌, ◌&&◌, ◌++◌, ◌≡◌, ℕ, Bool, false, List, [], ◌∷◌, Option, Some, None}
use Rattle.std.specs.Prelude.{length, take, drop, nat_lt, if◌then◌else◌, MatchBool}
use Rattle.std.specs.List.{suffix_len}
use Rattle.handoff_data.specs.declared.entry.Entry.{Entry}
use Rattle.journal_text.specs.declared.draft.Draft.{Draft}
use Rattle.journal_text.specs.declared.heading.Heading.{Heading}
use Rattle.journal_text.specs.declared.heading.Stage.{Stage}
use Rattle.journal_text.specs.declared.heading.Stage.TheVariants as stage
use Rattle.journal_text.specs.declared.keyword.Keyword.{Keyword}
use Rattle.journal_text.specs.declared.keyword.Keyword.TheVariants as keyword
use Rattle.journal_text.specs.Entries.{entry_after}
use Rattle.journal_text.specs.Fields.{◌>>=◌, gap_len, word_len, one_of}
use Rattle.journal_text.specs.Headings.{heading_after}
use Rattle.journal_text.specs.Keywords.{keyword_of}

-- What the lines have said so far: the heading, the journals that are whole, and the entries of the journal that is
-- being read.
pub record Progress : Type 0 where
  pub heading : Heading
  pub whole : List (List Entry)
  pub entries : List Entry

abbrev pub progress : Draft → Progress
progress d = record { heading = d.heading; whole = d.whole.items; entries = d.entries.items }

abbrev pub is_return : ℕ → Bool
is_return b = b == 13

-- how long the line is without the carriage returns at its end
unfoldable pub content_len : List ℕ → ℕ
content_len line = length line - suffix_len is_return line

-- the journal that is being read is whole
abbrev pub closed : Progress → Progress
closed p = record p { whole = p.whole ++ p.entries ∷ []; entries = [] }

-- the journal that is being read has one more entry
abbrev pub with_entry : Progress → Entry → Progress
with_entry p e = record p { entries = p.entries ++ e ∷ [] }

-- the same, if the line says an entry
abbrev pub with_said : Progress → Option Entry → Option Progress
with_said p said = said >>= λ e. Some (with_entry p e)

-- the number is that of the next seat
abbrev pub is_next : Option ℕ → Progress → Bool
is_next None p = false
is_next (Some i) p = (i == length p.whole + 1) && nat_lt i p.heading.seats

-- the journal that is being read is that of the last seat
abbrev pub is_last : List ℕ → Progress → Bool
is_last rest p = (length rest == 0) && (length p.whole + 1 == p.heading.seats)

-- a line behind the first `seat` line, by its keyword and what stands behind it
abbrev pub body_by : Keyword → Progress → List ℕ → Option Progress
body_by keyword.Seat p rest = if is_next (one_of rest) p then Some (closed p) else None
body_by keyword.End p rest =
    if is_last rest p then Some (record (closed p) { heading = record p.heading { stage = stage.Done } }) else None
body_by k p rest = with_said p (entry_after k rest)

unfoldable pub body_after : Progress → List ℕ → List ℕ → Option Progress
body_after p word rest = keyword_of word >>= λ k. body_by k p rest

abbrev pub words_at : Stage → Progress → List ℕ → List ℕ → Option Progress
words_at stage.Entries p word rest = body_after p word rest
words_at _ p word rest = heading_after p.heading word rest >>= λ h. Some (record p { heading = h })

-- a line that isn't blank, by its first word and what stands behind it
unfoldable pub words_after : Progress → List ℕ → List ℕ → Option Progress
words_after p word rest = words_at p.heading.stage p word rest

-- a line without the carriage returns at its end; a blank one adds nothing
abbrev pub content_after : Progress → List ℕ → Option Progress
content_after p text =
    if gap_len text == length text then Some p
    else words_after p (take (word_len text) text) (drop (word_len text) text)

-- what a text has said with one more line, if the line may come next
unfoldable pub line_after : Progress → List ℕ → Option Progress
line_after p line = content_after p (take (content_len line) line)

-- the line was taken, and this is what comes of it; or it may not come next
abbrev pub Takes : Bool → Option Progress → Progress → Type 0
Takes fits after p = MatchBool fits (after ≡ Some p) (after ≡ None)
