-- What holds of the core between any two steps.
use Rattle.core_data.specs.Columns.{Columns}
use Rattle.core_invariant.specs.Busy.{BusyHolds}
use Rattle.core_invariant.specs.Journals.{JournalsHold}
use Rattle.core_invariant.specs.Locks.{LocksHold}
use Rattle.core_invariant.specs.Places.{PlacesHold}
use Rattle.core_invariant.specs.Positions.{PositionsHold}
use Rattle.core_invariant.specs.Queues.{QueuesHold}
use Rattle.core_invariant.specs.Shapes.{ShapesHold}
use Rattle.core_invariant.specs.Sleepers.{SleepersHold}

pub record Holds (core : Columns) : Type 0 where
  pub shapes : ShapesHold core
  pub locks : LocksHold core
  pub queues : QueuesHold core
  pub busy : BusyHolds core
  pub places : PlacesHold core
  pub positions : PositionsHold core
  pub journals : JournalsHold core
  pub sleepers : SleepersHold core
