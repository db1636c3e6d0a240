-- What a seat of the table knows. Who makes a step is named anew in each layer, from the outermost in:
-- a pass (`Pass`, `task_words`) is a token with the entries of its turn; a token (`Token`) is the badge of a seat of
-- the core, with its number; a badge lends a seat of the table (`Seat` of `atomic_table`) for one step. Each seat of
-- the table has a view: what all know, and its parts. A part is what one seat of the core did: its number, its trace.
-- As a rule a view has one part; while a table is closed one view gathers the parts of all.
use Rattle.std.specs.Prelude.{ℕ, List}
use Rattle.handoff_data.specs.declared.shape.Shape.{Shape}
use Rattle.word_steps.specs.Records.{Rec}

-- a seat of the core: its number, and its trace, newest first
pub record Part : Type 0 where
  pub number : ℕ
  pub trace : List Rec

-- the shape, and what each task's body keeps for good
pub record Known : Type 0 where
  pub shape : Shape
  pub lasting : List (List ℕ)
