-- Which journals are one legal history.
use Rattle.std.specs.Prelude.{◌≡◌, ◌<◌, ◌≤◌, ℕ, Some}
use Rattle.handoff_data.specs.declared.entry.Entry.{Entry}
use Rattle.handoff_data.specs.declared.entry.Entry.TheVariants as entry
use Rattle.handoff_data.specs.History.{History}
use Rattle.handoff_data.specs.Numbers.{change_of, run_of}
use Rattle.handoff_data.specs.Positions.{Stands, IsSomewhere}
use Rattle.handoff_data.specs.Rules.{InRange, NotRepeated, Chained, Caused, RisesInJournal, RunsAlternate}
use Rattle.handoff_data.specs.Rules.{LeavesWhileRunning, ListedInOrder, OutageLeavesNone, MaskedAndStood, DoneStood}

-- the entry, which stands there, keeps the rule of this number
pub record Keeps (rule : ℕ) (j : History) (seat index : ℕ) (entry : Entry) : Type 0 where
  pub in_range : rule ≡ 1 → InRange j seat index entry
  pub not_repeated : rule ≡ 2 → NotRepeated j seat index entry
  pub chained : rule ≡ 3 → Chained j seat index entry
  pub caused : rule ≡ 4 → Caused j seat index entry
  pub rises_in_journal : rule ≡ 5 → RisesInJournal j seat index entry
  pub runs_alternate : rule ≡ 6 → RunsAlternate j seat index entry
  pub leaves_while_running : rule ≡ 7 → LeavesWhileRunning j seat index entry
  pub listed_in_order : rule ≡ 8 → ListedInOrder j seat index entry
  pub outage_leaves_none : rule ≡ 9 → OutageLeavesNone j seat index entry
  pub masked_and_stood : rule ≡ 10 → MaskedAndStood j seat index entry
  pub done_stood : rule ≡ 11 → DoneStood j seat index entry

-- no entry is bad
abbrev pub HasNoBad : History → Type 0
HasNoBad j = (seat index : ℕ) (entry : Entry) → Stands j seat index entry → (rule : ℕ) → Keeps rule j seat index entry

-- the change of t with the highest number is a Die
abbrev pub DiesLast : History → ℕ → Type 0
DiesLast j t =
    (m c : ℕ) × IsSomewhere j (entry.Die t m c)
    × ((e : Entry) (m' : ℕ) → IsSomewhere j e → change_of e ≡ Some (t, m') → m' ≤ m)

-- the run entry of t with the highest number is a Finish
abbrev pub FinishesLast : History → ℕ → Type 0
FinishesLast j t =
    (n c : ℕ) × IsSomewhere j (entry.Finish t n c)
    × ((e : Entry) (n' : ℕ) → IsSomewhere j e → run_of e ≡ Some (t, n') → n' ≤ n)

-- the task has ended
pub record HasEnded (j : History) (t : ℕ) : Type 0 where
  pub dies : DiesLast j t
  pub finishes : FinishesLast j t

-- the journals are one legal history
pub record IsLegal (j : History) : Type 0 where
  pub no_bad : HasNoBad j
  pub ended : (t : ℕ) → t < j.tasks → HasEnded j t
