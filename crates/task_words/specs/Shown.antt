-- How a pass is seen.
use Rattle.std.specs.Prelude.{◌≡◌, ◌+◌, ◌-◌, ◌*◌, ◌<◌, ◌++◌, ℕ, List, Some, length, take}
use Rattle.handoff_data.specs.declared.entry.Entry.{Entry}
use Rattle.task_words.specs.Views.{PassView}
use Rattle.task_words.specs.declared.pass.Pass.TheInside.{Inside}
use Rattle.word_steps.specs.Folds.{current_task, journal}

-- a journal without its last entries, as many as the turn has
abbrev pub told_before : List Entry → List Entry → List Entry
told_before all turn = take (length all - length turn) all

abbrev pub pass_view : Inside → PassView
pass_view p = record {
  of = p.token.of;
  shape = p.token.shape;
  lasting = p.token.lasting;
  seat = p.token.seat;
  trace = p.token.trace;
  turn = p.turn;
  told = told_before (journal p.token.seat p.token.trace) p.turn.entries;
}

-- it knows its current task, which is of the shape; its turn is the end of its journal, and has room for four entries a
-- task and sixteen
pub record IsPass (p : Inside) : Type 0 where
  pub current : p.current ≡ current_task p.token.seat p.token.trace
  pub within : (t : ℕ) → p.current ≡ Some t → t < p.token.shape.tasks
  pub tied : journal p.token.seat p.token.trace ≡ told_before (journal p.token.seat p.token.trace) p.turn.entries
      ++ p.turn.entries
  pub room : length p.turn.entries + p.turn.spare ≡ 4 * p.token.shape.tasks + 16
