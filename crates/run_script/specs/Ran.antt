-- How the passes of a table stand once its tasks have run to their end.
use Rattle.std.specs.Prelude.{◌+◌, List, Option, map}
use Rattle.std.specs.List.{All}
use Rattle.handoff_data.specs.declared.entry.Entry.{Entry}
use Rattle.run_cells.specs.Ends.{AllDied}
use Rattle.run_script.specs.Told.{AreTold}
use Rattle.task_words.specs.Closing.{IsDone, journals_in}
use Rattle.task_words.specs.Views.{PassView, IsOf}
use Rattle.word_table.specs.End.{HasEachSeat}
use Rattle.word_table.specs.Views.{WordsView}

-- the passes are those of all seats of the table, and have given all back; each task has its death in a journal; and
-- each gate was told the journal of its seat
pub record HasRun
    {G : Type 0}
    (told : G → Option (List Entry))
    (wk : WordsView)
    (old new : List G)
    (passes : List PassView)
    : Type 0 where
  pub of : All (IsOf wk) passes
  pub all : HasEachSeat (wk.shape.cpus + wk.shape.agents) (map (λ p. p.seat) passes)
  pub done : All IsDone passes
  pub died : AllDied (journals_in wk.shape passes) wk.shape.tasks
  pub each : AreTold told (journals_in wk.shape passes).seats old new
