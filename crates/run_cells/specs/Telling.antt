-- What a gate was told of what its seat did.
use Rattle.std.specs.Prelude.{◌≡◌, ◌++◌, List, Option, Some, None, Vec}
use Rattle.std.specs.Global.{Global}
use Rattle.handoff_data.specs.declared.entry.Entry.{Entry}
use Rattle.task_words.specs.Closing.{empty_turn}
use Rattle.task_words.specs.Views.{PassView, IsOneSeat}

-- the list of a gate, where it tells one, with entries more
abbrev pub told_after : Option (List Entry) → List Entry → Option (List Entry)
told_after None entries = None
told_after (Some list) entries = Some (list ++ entries)

-- the list of a gate that may be missing
abbrev pub list_of : {G : Type 0} → (G → Option (List Entry)) → Option G → Option (List Entry)
list_of told None = None
list_of told (Some gate) = told gate

-- the entries of a gate that may keep none
abbrev pub kept_in : Option (Vec Entry Global) → Option (List Entry)
kept_in None = None
kept_in (Some entries) = Some entries.items

-- since its list was `begun` a gate was told what its seat has told since then: what the seat did, but for its turn
abbrev pub IsTold : Option (List Entry) → Option (List Entry) → PassView → Type 0
IsTold begun list pass = list ≡ told_after begun pass.told

-- whatever the gate's list was at first, it stays told
abbrev pub StaysTold : Option (List Entry) → Option (List Entry) → PassView → PassView → Type 0
StaysTold before after old new =
    (begun : Option (List Entry)) → IsTold begun before old → IsTold begun after new

-- the entries of the turn are told, and the turn is empty
abbrev pub cleared : PassView → PassView
cleared pass = record pass { turn = empty_turn pass.shape.tasks; told = pass.told ++ pass.turn.entries }

-- the entries told go on
pub record Grows (old new : List Entry) : Type 0 where
  pub added : List Entry
  pub is : new ≡ old ++ added

-- it is the pass of the same seat; the gate, whose list was `before` and is `after`, stays told; and what is told goes
-- on
pub record GoesOn (before after : Option (List Entry)) (old new : PassView) : Type 0 where
  pub same : IsOneSeat old new
  pub told : StaysTold before after old new
  pub grows : Grows old.told new.told
