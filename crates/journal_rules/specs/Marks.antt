-- Which listings of a waker a journal has taken, and the last of them.
use Rattle.std.specs.Prelude.{◌≡◌, ◌<◌, ◌≤◌, ◌⊎◌, ℕ, true, List, Option, Some, None, Contains, length, slice_get}
use Rattle.handoff_data.specs.declared.entry.Entry.{Entry}
use Rattle.handoff_data.specs.declared.entry.Entry.TheVariants as entry
use Rattle.handoff_data.specs.History.{History}
use Rattle.handoff_data.specs.Positions.{Stands}
use Rattle.handoff_data.specs.Rules.{IsListing}
use Rattle.journal_facts.specs.declared.fact.Fact.{Fact}
use Rattle.journal_rules.specs.declared.marks.Mark.{Mark}

-- in this journal some queueing by list that stands before the index ends a listing at k of the waker's journal
abbrev pub IsTakenFrom : History → ℕ → ℕ → ℕ → ℕ → Type 0
IsTakenFrom j seat index waker k =
    (before t m c : ℕ) × (before < index) × Stands j seat before (entry.Enq t m c true) × IsListing j waker k t m c

-- so does one a listing behind k
abbrev pub IsPassed : History → ℕ → ℕ → ℕ → ℕ → Type 0
IsPassed j seat index waker k = (k' : ℕ) × (k < k') × IsTakenFrom j seat index waker k'

-- the entry is a queueing by list, which ends a listing at k of the waker's journal
abbrev pub EndsAt : History → Entry → ℕ → ℕ → Type 0
EndsAt j (entry.Enq t m c true) waker k = IsListing j waker k t m c
EndsAt j _ waker k = ⊥

-- one of these facts is about index k of the waker's journal
pub record IsPlaceOf (facts : List Fact) (waker k : ℕ) : Type 0 where
  pub fact : Fact
  pub listed : Contains facts fact
  pub seat_is : fact.seat ≡ waker
  pub index_is : fact.index ≡ k

-- the mark is that of the last of these indexes, or of an earlier seat, and then there are none
pub record IsLastOf (P : ℕ → Type 0) (seat : ℕ) (mark : Mark) : Type 0 where
  pub not_later : mark.seat ≤ seat
  pub last : (k : ℕ) → P k → (mark.seat ≡ seat) × (k ≤ mark.index)
  pub taken : mark.seat ≡ seat → P mark.index

abbrev pub IsMarkOf : (ℕ → Type 0) → ℕ → Option Mark → Type 0
IsMarkOf P seat None = (k : ℕ) → ¬ P k
IsMarkOf P seat (Some mark) = IsLastOf P seat mark

-- each of so many wakers has a mark of the indexes of its journal that are meant
pub record AreMarksOf (P : ℕ → ℕ → Type 0) (wakers seat : ℕ) (marks : List (Option Mark)) : Type 0 where
  pub marked : length marks ≡ wakers
  pub each : (waker : ℕ) (mark : Option Mark) → slice_get marks waker ≡ Some mark → IsMarkOf (P waker) seat mark

-- each waker has a mark of the listings that were taken before the index
abbrev pub AreMarks : History → ℕ → ℕ → List (Option Mark) → Type 0
AreMarks j seat index marks = AreMarksOf (IsTakenFrom j seat index) (length j.seats) seat marks

-- after the mark the index was taken too, in the journal of this seat
pub record IsRaised (mark : Option Mark) (seat index : ℕ) (after : Mark) : Type 0 where
  pub seat_is : after.seat ≡ seat
  pub covers : index ≤ after.index
  pub keeps : (m : Mark) → mark ≡ Some m → m.seat ≡ seat → m.index ≤ after.index
  pub one : (after.index ≡ index) ⊎ ((m : Mark) × (mark ≡ Some m) × (m.seat ≡ seat) × (after.index ≡ m.index))
