-- What contracts see of the shared table and of a pass.
use Rattle.std.specs.Prelude.{◌≡◌, ◌-◌, ◌++◌, ◌∷◌, [], ℕ, List}
use Rattle.atomic_table.specs.Seated.{TableId}
use Rattle.handoff_data.specs.declared.entry.Entry.{Entry}
use Rattle.handoff_data.specs.declared.shape.Shape.{Shape}
use Rattle.word_steps.specs.Records.{Rec}
use Rattle.word_table.specs.Views.{WordsView}

-- the entries of a turn, oldest first, and the room for more
pub record TurnView : Type 0 where
  pub entries : List Entry
  pub spare : ℕ

pub record PassView : Type 0 where
  -- the table, its shape, and what each task's body keeps for good
  pub of : TableId
  pub shape : Shape
  pub lasting : List (List ℕ)
  -- the number of its seat
  pub seat : ℕ
  -- what it did, newest first
  pub trace : List Rec
  -- the entries that its calls made since the turn was last cleared, and those that they made before
  pub turn : TurnView
  pub told : List Entry

-- the pass is of this table
pub record IsOf (wk : WordsView) (pass : PassView) : Type 0 where
  pub table : pass.of ≡ wk.name
  pub same_shape : pass.shape ≡ wk.shape
  pub same_lasting : pass.lasting ≡ wk.lasting

-- both are of one seat of one table: where the turn may have been cleared
pub record IsOneSeat (old new : PassView) : Type 0 where
  pub table : new.of ≡ old.of
  pub same_shape : new.shape ≡ old.shape
  pub same_lasting : new.lasting ≡ old.lasting
  pub same_seat : new.seat ≡ old.seat

-- .. and all but the trace and the turn stays
pub record IsSameSeat (old new : PassView) : Type 0 where
  pub table : new.of ≡ old.of
  pub same_shape : new.shape ≡ old.shape
  pub same_lasting : new.lasting ≡ old.lasting
  pub same_seat : new.seat ≡ old.seat
  pub same_told : new.told ≡ old.told

-- all but the trace stays
pub record IsSame (old new : PassView) : Type 0 where
  pub same : IsSameSeat old new
  pub same_turn : new.turn ≡ old.turn

-- a turn with one entry more
abbrev pub logged : Entry → TurnView → TurnView
logged entry turn = record { entries = turn.entries ++ entry ∷ []; spare = turn.spare - 1 }
