-- Which of a task's changes, or of its runs, is the last. `numbers` is `change_of` or `run_of`.
use Rattle.std.specs.Prelude.{◌≡◌, ◌≢◌, ◌<◌, ◌≤◌, ℕ, Option, Some}
use Rattle.handoff_data.specs.declared.entry.Entry.{Entry}
use Rattle.handoff_data.specs.History.{History}
use Rattle.handoff_data.specs.Positions.{Stands, IsSomewhere}
use Rattle.handoff_data.specs.Rules.{RisesInJournal}

-- in this journal the entry is the last before the index that has a number of t
pub record IsLast (numbers : Entry → Option (ℕ × ℕ)) (j : History) (seat index t : ℕ) (entry : Entry) : Type 0 where
  pub number : ℕ
  pub numbered : numbers entry ≡ Some (t, number)
  pub last : ℕ
  pub below : last < index
  pub stands : Stands j seat last entry
  pub none_later : (k n : ℕ) (entry' : Entry) → last < k → k < index → Stands j seat k entry'
      → numbers entry' ≢ Some (t, n)

-- in this journal no entry before the index has a number of t
abbrev pub HasNone : (Entry → Option (ℕ × ℕ)) → History → ℕ → ℕ → ℕ → Type 0
HasNone numbers j seat index t = (k n : ℕ) (entry : Entry) → k < index → Stands j seat k entry
    → numbers entry ≢ Some (t, n)

-- in this journal each number of t before the index is below n
abbrev pub AreBelow : (Entry → Option (ℕ × ℕ)) → History → ℕ → ℕ → ℕ → ℕ → Type 0
AreBelow numbers j seat index t n =
    (before n' : ℕ) (entry : Entry) → before < index → Stands j seat before entry → numbers entry ≡ Some (t, n')
    → n' < n

-- in this journal the numbers rise at each entry before the index
abbrev pub RoseBefore : History → ℕ → ℕ → Type 0
RoseBefore j seat index = (before : ℕ) (entry : Entry) → before < index → Stands j seat before entry
    → RisesInJournal j seat before entry

-- the number is the highest of t in all journals
pub record IsHighestOf (numbers : Entry → Option (ℕ × ℕ)) (j : History) (t highest : ℕ) : Type 0 where
  pub entry : Entry
  pub numbered : numbers entry ≡ Some (t, highest)
  pub somewhere : IsSomewhere j entry
  pub none_higher : (other : Entry) (n : ℕ) → IsSomewhere j other → numbers other ≡ Some (t, n) → n ≤ highest

-- no entry has a number of t
abbrev pub IsNowhere : (Entry → Option (ℕ × ℕ)) → History → ℕ → Type 0
IsNowhere numbers j t = (entry : Entry) (n : ℕ) → IsSomewhere j entry → numbers entry ≢ Some (t, n)
