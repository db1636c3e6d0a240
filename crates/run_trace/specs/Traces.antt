-- What a run says of its journals.
use Rattle.std.specs.Prelude.{◌≡◌, List, Option}
use Rattle.handoff_data.specs.History.{History}
use Rattle.handoff_data.specs.declared.entry.Entry.{Entry}
use Rattle.run_script.specs.Told.{TellsRun}
use Rattle.task_script.specs.declared.script.Script.{Script}

-- each gate was told the journal of its seat, and the journals are these
pub record TellsJournals
    {G : Type 0}
    (told : G → Option (List Entry))
    (script : Script)
    (journals : History)
    (old new : List G)
    : Type 0 where
  pub tells : TellsRun told script old new
  pub these : tells.journals ≡ journals
