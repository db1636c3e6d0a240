-- How the current task enters a wait queue, and leaves it.
use Rattle.std.specs.Prelude.{◌≡◌, ℕ, ◌∷◌, Bool, List, Some, if◌then◌else◌}
use Rattle.std.specs.List.{filter}
use Rattle.handoff_data.specs.declared.state.State.{State}
use Rattle.task_words.specs.EntryTasks.{is_of_other}
use Rattle.task_words.specs.Folds.{current_task}
use Rattle.task_words.specs.Gives.{entered}
use Rattle.task_words.specs.Records.{Rec, Took, Gave, StateSet}
use Rattle.task_words.specs.Steps.{running}
use Rattle.task_words.specs.Val.TheVariants as val
use Rattle.task_words.specs.WaitEntry.{WaitEntry}
use Rattle.task_words.specs.Waits.{has_task}

-- a wait queue with an entry of a task put in, where it had none of that task
unfoldable pub with_entry : WaitEntry → List WaitEntry → List WaitEntry
with_entry x v = if has_task v x.t then v else entered x v

-- under the lock of k the current task's entry was put in, where it had none there, and then the state was stored
pub record IsPrepared (k : ℕ) (exclusive : Bool) (state : State) (s : ℕ) (old new : List Rec) : Type 0 where
  pub t : ℕ
  pub v : List WaitEntry
  pub current : current_task s old ≡ Some t
  pub did : new
      ≡ Gave k (val.Wait v) (val.Wait (with_entry (record { t = t; exclusive = exclusive }) v))
      ∷ StateSet t state ∷ Took k (val.Wait v) ∷ old

-- TASK_RUNNING was stored as the current task's state, and then under the lock of k each entry of it was taken out
pub record IsFinished (k : ℕ) (s : ℕ) (old new : List Rec) : Type 0 where
  pub t : ℕ
  pub v : List WaitEntry
  pub current : current_task s old ≡ Some t
  pub did : new
      ≡ Gave k (val.Wait v) (val.Wait (filter (is_of_other t) v)) ∷ Took k (val.Wait v) ∷ StateSet t running ∷ old
