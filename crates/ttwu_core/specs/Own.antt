-- What the wake-up of the own current task adds to what its pass has done, by its answer.
use Rattle.std.specs.Prelude.{◌≡◌, ℕ, ◌∷◌, true, false, Some}
use Rattle.handoff_data.specs.declared.entry.Entry.TheVariants as entry
use Rattle.handoff_data.specs.declared.state.State.{State}
use Rattle.task_words.specs.Folds.{current_task}
use Rattle.task_words.specs.Records.{StateSet, LoadedState}
use Rattle.task_words.specs.Steps.{is_match, running}
use Rattle.task_words.specs.Views.{PassView, logged}
use Rattle.ttwu_core.specs.declared.answers.How.TheVariants as how
use Rattle.ttwu_core.specs.declared.answers.Wake.{Wake}
use Rattle.ttwu_core.specs.declared.answers.Wake.TheVariants as wake

-- its state was read and has a bit of the mask, and TASK_RUNNING was stored
pub record IsOwnWoken (mask : State) (old new : PassView) : Type 0 where
  pub task : ℕ
  pub seen : State
  pub current : current_task old.seat old.trace ≡ Some task
  pub matched : is_match seen mask ≡ true
  pub did : new.trace ≡ StateSet task running ∷ LoadedState task (Some mask) seen ∷ old.trace
  pub turn : new.turn ≡ old.turn

-- its state was read and has no bit of the mask, which the journal notes
pub record IsOwnRefused (mask seen : State) (old new : PassView) : Type 0 where
  pub task : ℕ
  pub current : current_task old.seat old.trace ≡ Some task
  pub unmatched : is_match seen mask ≡ false
  pub did : new.trace ≡ LoadedState task (Some mask) seen ∷ old.trace
  pub turn : new.turn ≡ logged (entry.Refused task seen) old.turn

abbrev pub DidWakeOwn : State → PassView → PassView → Wake → Type 0
DidWakeOwn mask old new (wake.Woke how.Own) = IsOwnWoken mask old new
DidWakeOwn mask old new (wake.NoMatch seen) = IsOwnRefused mask seen old new
DidWakeOwn mask old new other = ⊥
