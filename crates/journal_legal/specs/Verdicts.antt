-- What a verdict says of journals.
use Rattle.std.specs.Prelude.{◌<◌, ℕ}
use Rattle.handoff_data.specs.declared.entry.Entry.{Entry}
use Rattle.handoff_data.specs.History.{History}
use Rattle.handoff_data.specs.Legal.{HasNoBad, HasEnded, IsLegal}
use Rattle.handoff_data.specs.Positions.{Stands}
use Rattle.journal_legal.specs.Judging.{EarlierKeepAll, IsLowestBroken}
use Rattle.journal_legal.specs.declared.verdict.Verdict.{Verdict}
use Rattle.journal_legal.specs.declared.verdict.Verdict.TheVariants as verdict

-- The entry that stands there breaks this rule and no lower one, and each entry at an earlier position keeps each rule.
pub record IsFirstBad (j : History) (seat index rule : ℕ) : Type 0 where
  pub entry : Entry
  pub stands : Stands j seat index entry
  pub earlier : EarlierKeepAll j seat index
  pub broken : IsLowestBroken j seat index entry rule

-- No entry is bad, and t is the lowest task that hasn't ended.
pub record IsLowestUnended (j : History) (t : ℕ) : Type 0 where
  pub no_bad : HasNoBad j
  pub within : t < j.tasks
  pub unended : ¬ HasEnded j t
  pub lower_ended : (lower : ℕ) → lower < t → HasEnded j lower

-- the verdict on the journals
abbrev pub IsVerdict : History → Verdict → Type 0
IsVerdict j verdict.Legal = IsLegal j
IsVerdict j (verdict.FirstBad seat index rule) = IsFirstBad j seat index rule
IsVerdict j (verdict.Unended t) = IsLowestUnended j t
