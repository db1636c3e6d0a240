-- What an entry does to the places of all tasks.
use Rattle.std.specs.Prelude.{◌≡◌, ℕ, List, Some, None, slice_get, slice_set, MatchOption}
use Rattle.handoff_data.specs.declared.entry.Entry.{Entry}
use Rattle.handoff_data.specs.declared.place.Q.TheVariants as q
use Rattle.handoff_data.specs.declared.place.Place.{Place}
use Rattle.handoff_data.specs.Moves.{Moves, MovesFrom, task_of}
use Rattle.place_table.specs.declared.table.Illegal.{Illegal}

-- where each task is at first
abbrev pub start_place : Place
start_place = record { q = q.New; b = None }

-- the task's place changes by a move of this entry, and no other place changes
pub record AppliesTo (seat : ℕ) (old : List Place) (entry : Entry) (new : List Place) (t : ℕ) : Type 0 where
  pub before : Place
  pub was : slice_get old t ≡ Some before
  pub after : Place
  pub moves : Moves seat before entry after
  pub is : new ≡ slice_set old t after

abbrev pub Applies : ℕ → List Place → Entry → List Place → Type 0
Applies seat old entry new = MatchOption (task_of entry) (new ≡ old) (λ t. AppliesTo seat old entry new t)

-- the entry of this seat is no move from the place of its task
pub record IsIllegal (seat : ℕ) (places : List Place) (entry : Entry) (illegal : Illegal) : Type 0 where
  pub entry_is : illegal.entry ≡ entry
  pub place_is : MatchOption (task_of entry) ⊥ (λ t. slice_get places t ≡ Some illegal.place)
  pub no_move : MovesFrom seat illegal.place entry → ⊥
