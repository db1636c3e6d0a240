-- What the judge says of an entry, and what it has gone through before it does.
use Rattle.std.specs.Prelude.{◌<◌, ◌≤◌, ◌^◌, ℕ, length}
use Rattle.handoff_data.specs.declared.entry.Entry.{Entry}
use Rattle.handoff_data.specs.History.{History}
use Rattle.handoff_data.specs.Legal.{Keeps}
use Rattle.handoff_data.specs.Positions.{Stands, IsEarlier}
use Rattle.journal_legal.specs.declared.judge.Judge.{Judge}
use Rattle.journal_rules.specs.Known.{KnowsFacts, KnowsMembers}
use Rattle.journal_rules.specs.Marks.{AreMarks}

-- the entry, which stands there, keeps each rule
abbrev pub KeepsAll : History → ℕ → ℕ → Entry → Type 0
KeepsAll j seat index entry = (rule : ℕ) → Keeps rule j seat index entry

-- it keeps each rule below this one
abbrev pub KeepsBelow : ℕ → History → ℕ → ℕ → Entry → Type 0
KeepsBelow rule j seat index entry = (lower : ℕ) → lower < rule → Keeps lower j seat index entry

-- each entry that stands at an earlier position keeps each rule
abbrev pub EarlierKeepAll : History → ℕ → ℕ → Type 0
EarlierKeepAll j seat index =
    (seat' index' : ℕ) (entry' : Entry) → IsEarlier seat' index' seat index → Stands j seat' index' entry'
    → (rule : ℕ) → Keeps rule j seat' index' entry'

-- the lowest rule that the entry, which stands there, doesn't keep
pub record IsLowestBroken (j : History) (seat index : ℕ) (entry : Entry) (rule : ℕ) : Type 0 where
  pub from_1 : 1 ≤ rule
  pub to_11 : rule ≤ 11
  pub broken : ¬ Keeps rule j seat index entry
  pub lower_kept : (lower : ℕ) → lower < rule → Keeps lower j seat index entry

-- the judge of these journals has gone through each position before this one
pub record IsJudgeAt (j : History) (seat index : ℕ) (judge : Judge) : Type 0 where
  pub few : length j.seats < 2 ^ 32
  pub facts : KnowsFacts j judge.facts
  pub members : KnowsMembers j judge.members
  pub marks : AreMarks j seat index judge.marks.items
