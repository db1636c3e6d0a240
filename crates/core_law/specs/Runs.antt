-- Runs of events.
use Rattle.std.specs.Prelude.{◌≡◌, List, [], ◌∷◌}
use Rattle.core_data.specs.Columns.{Columns}
use Rattle.core_journals.specs.Places.{OneMoveOrNone}
use Rattle.core_law.specs.Steps.{May, after}
use Rattle.core_law.specs.declared.event.Event.{Event}

-- the core after some events, each of them possible where it comes
abbrev pub Ran : Columns → List Event → Columns → Type 0
Ran core [] next = next ≡ core
Ran core (e ∷ es) next = May core e.seat e.step × Ran (after core e.seat e.step) es next

-- each event is one move of one task by the table of moves, with its entry, or moves no task
abbrev pub EachMoves : Columns → List Event → Type 0
EachMoves core [] = Unit {0}
EachMoves core (e ∷ es) = OneMoveOrNone e.seat core (after core e.seat e.step) × EachMoves (after core e.seat e.step) es
