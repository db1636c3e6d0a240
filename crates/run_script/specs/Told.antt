-- What the gates of a run were told.
use Rattle.std.specs.Prelude.{◌≡◌, ◌<◌, ◌≤◌, ◌+◌, ℕ, List, Option, Some, None, length, slice_get, slice_index_or}
use Rattle.handoff_data.specs.History.{History}
use Rattle.handoff_data.specs.Legal.{IsLegal}
use Rattle.handoff_data.specs.declared.entry.Entry.{Entry}
use Rattle.run_cells.specs.Telling.{told_after}
use Rattle.task_script.specs.declared.script.Script.{Script}

-- what a gate's list becomes as its seat's journal is told; a gate beyond the seats is left alone
abbrev pub told_for : Option (List Entry) → Option (List Entry) → Option (List Entry)
told_for (Some journal) before = told_after before journal
told_for None before = before

-- each gate was told the journal of its seat
abbrev pub AreTold :
    {G : Type 0} → (G → Option (List Entry)) → List (List Entry) → List G → List G → Type 0
AreTold {G} told journals old new =
    (i : ℕ) (d e : G) → i < length old
    → told (slice_index_or new i e) ≡ told_for (slice_get journals i) (told (slice_index_or old i d))

-- each gate of one of so many seats was told some entries, and one beyond them none
pub record WereTold {G : Type 0} (told : G → Option (List Entry)) (seats : ℕ) (old new : List G) : Type 0 where
  pub entries : List (List Entry)
  pub few : length entries ≤ seats
  pub each : AreTold told entries old new

-- Each gate was told the journal of its seat, and these are the journals of one legal history of the script's tasks.
pub record TellsRun {G : Type 0} (told : G → Option (List Entry)) (script : Script) (old new : List G) : Type 0 where
  pub journals : History
  pub cpus_are : journals.cpus ≡ script.shape.cpus
  pub tasks_are : journals.tasks ≡ script.shape.tasks
  pub seats_are : length journals.seats ≡ script.shape.cpus + script.shape.agents
  pub legal : IsLegal journals
  pub each : AreTold told journals.seats old new
