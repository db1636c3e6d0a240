-- What contracts see of the table and of a seat's token.
use Rattle.std.specs.Prelude.{◌≡◌, ℕ, List}
use Rattle.atomic_table.specs.Seated.{TableId}
use Rattle.handoff_data.specs.declared.shape.Shape.{Shape}
use Rattle.word_steps.specs.Records.{Rec}

-- which table it is, its shape, and what each task's body keeps for good
pub record WordsView : Type 0 where
  pub name : TableId
  pub shape : Shape
  pub lasting : List (List ℕ)

pub record TokenView : Type 0 where
  pub of : TableId
  pub shape : Shape
  pub lasting : List (List ℕ)
  -- its number
  pub seat : ℕ
  -- newest first
  pub trace : List Rec

-- the token is of the table with this name, of this shape, whose bodies keep these
pub record IsFor (name : TableId) (shape : Shape) (lasting : List (List ℕ)) (token : TokenView) : Type 0 where
  pub table : token.of ≡ name
  pub same_shape : token.shape ≡ shape
  pub same_lasting : token.lasting ≡ lasting

-- the token is of this table
abbrev pub IsOf : WordsView → TokenView → Type 0
IsOf w = IsFor w.name w.shape w.lasting

-- all but the trace stays
pub record IsSame (old new : TokenView) : Type 0 where
  pub table : new.of ≡ old.of
  pub same_shape : new.shape ≡ old.shape
  pub same_lasting : new.lasting ≡ old.lasting
  pub same_seat : new.seat ≡ old.seat
