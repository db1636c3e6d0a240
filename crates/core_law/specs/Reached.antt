-- Cores that a machine can come to.
use Rattle.std.specs.Prelude.{◌≡◌, ℕ, Bool, List}
use Rattle.core_data.specs.Opening.{IsStart}
use Rattle.core_data.specs.Columns.{Columns}
use Rattle.core_law.specs.Runs.{Ran}
use Rattle.core_law.specs.declared.event.Event.{Event}
use Rattle.handoff_data.specs.Shape.{IsShape}
use Rattle.handoff_data.specs.declared.shape.Shape.{Shape}

-- an opening core: as a new core is, but that bodies may have ended before they first run
pub record IsOpening (shape : Shape) (core : Columns) : Type 0 where
  pub start : Columns
  pub is_start : IsStart shape start
  pub ended : ℕ → Bool
  pub alike : core ≡ record start { ended = ended }

-- from an opening core of some shape, by some list of events, each of them possible where it comes
pub record IsReached (core : Columns) : Type 0 where
  pub shape : Shape
  pub is_shape : IsShape shape
  pub opening : Columns
  pub is_opening : IsOpening shape opening
  pub events : List Event
  pub ran : Ran opening events core
