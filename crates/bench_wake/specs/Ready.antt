-- A seat that may start, pick and wake, and tables that it does it on.
use Rattle.std.specs.Prelude.{◌≡◌, ◌<◌}
use Rattle.handoff_data.specs.declared.shape.Shape.{Shape}
use Rattle.task_words.specs.Seats.{IsBetween}
use Rattle.task_words.specs.TableViews.{WordsView}
use Rattle.task_words.specs.Views.{PassView, IsOf}

-- the pass is that of a processor of the table, and stands between two scenarios
pub record IsReady (wk : WordsView) (pass : PassView) : Type 0 where
  pub of : IsOf wk pass
  pub processor : pass.seat < wk.shape.cpus
  pub between : IsBetween pass

-- there are six conditions, and ten tasks for each
pub record IsRoom (shape : Shape) : Type 0 where
  pub tasks : shape.tasks ≡ 60
  pub conds : shape.conds ≡ 6
