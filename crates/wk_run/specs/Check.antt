-- What a check of journals reads and writes.
use Rattle.std.specs.Prelude.{◌≡◌, ℕ, List, [], ◌∷◌, ◌++◌, Option, Ok, Err, codes}
use Rattle.std.specs.Fmt.{decimal}
use Rattle.std.specs.Io.KnownBytes.{Appends, Consumes, IsAtEnd}
use Rattle.handoff_data.specs.History.{History}
use Rattle.handoff_data.specs.Legal.{IsLegal}
use Rattle.journal_legal.specs.Verdicts.{IsFirstBad, IsLowestUnended}
use Rattle.journal_text.specs.Text.{reading, entry_count}
use Rattle.wk_run.specs.Input.{ReadsInput, WritesPart}
use Rattle.wk_run.specs.declared.journal_fault.JournalFault.{JournalFault}
use Rattle.wk_run.specs.declared.journal_fault.JournalFault.TheVariants as fault

-- how many bytes a text of journals has at most
abbrev pub journal_limit : ℕ
journal_limit = 268435456

-- the answer for legal journals: how many entries they have
abbrev pub legal_line : History → List ℕ
legal_line j = codes "legal " ++ decimal (entry_count j) ++ 10 ∷ []

-- the bytes are a text of journals that are one legal history
pub record IsLegalText (bytes : List ℕ) (j : History) : Type 0 where
  pub says : reading bytes ≡ Ok j
  pub legal : IsLegal j

-- Why the bytes are none: the line is the first of a text that may not stand where it does; or the text says journals,
-- and this is their first bad entry, or their lowest task that hasn't ended.
abbrev pub IsFaultOf : List ℕ → JournalFault → Type 0
IsFaultOf bytes (fault.Text line) = reading bytes ≡ Err line
IsFaultOf bytes (fault.Entry seat index rule) = (j : History) × (reading bytes ≡ Ok j) × IsFirstBad j seat index rule
IsFaultOf bytes (fault.Unended t) = (j : History) × (reading bytes ≡ Ok j) × IsLowestUnended j t

-- ---- the answers, where `held` and `left` are what the source tells before and after, and `before` and `after` what
-- the sink tells

-- The source was read to its end, and what was read is the text of these journals, which are legal.
pub record ReadsLegal (held left : Option (List ℕ)) (j : History) : Type 0 where
  pub read : List ℕ
  pub taken : Consumes held left read
  pub to_end : IsAtEnd left
  pub is_legal : IsLegalText read j

-- Legal journals were read, and the line on them was written.
pub record WritesVerdict (held left before after : Option (List ℕ)) : Type 0 where
  pub journals : History
  pub reads : ReadsLegal held left journals
  pub writes : Appends before after (legal_line journals)

-- Legal journals were read, and a part from the front of the line on them was written.
pub record WritesVerdictPart (held left before after : Option (List ℕ)) : Type 0 where
  pub journals : History
  pub reads : ReadsLegal held left journals
  pub writes : WritesPart before after (legal_line journals)

-- The source was read to its end or to one byte past the limit, and what was read is no text of legal journals, for
-- this reason.
pub record ReadsIllegal (held left : Option (List ℕ)) (why : JournalFault) : Type 0 where
  pub read : List ℕ
  pub input : ReadsInput journal_limit held left read
  pub is_fault : IsFaultOf read why
  pub no_legal : (j : History) → ¬ IsLegalText read j
