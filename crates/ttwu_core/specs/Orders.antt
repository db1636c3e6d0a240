-- Which steps a wake-up makes after which.
use Rattle.std.specs.Prelude.{◌≡◌, ℕ, ◌++◌, ◌∷◌, true, List, Some}
use Rattle.handoff_data.specs.declared.state.State.{State}
use Rattle.task_words.specs.Records.{Rec, Queued, Claimed, MadeRunnable, StateSet, LoadedState}
use Rattle.task_words.specs.Steps.{is_match, running}

-- some steps, or none, were made from the old trace to the new one
pub record IsSince (old new : List Rec) : Type 0 where
  pub added : List Rec
  pub did : new ≡ added ++ old

-- one step was made, and later another
pub record IsBothMade (first second : Rec) (old new : List Rec) : Type 0 where
  pub before : List Rec
  pub between : List Rec
  pub start : IsSince old before
  pub middle : IsSince (first ∷ before) between
  pub rest : IsSince (second ∷ between) new

-- a state of t was read that has a bit of the mask, and later TASK_RUNNING was stored
pub record IsReadAndMadeRunnable (t : ℕ) (mask : State) (old new : List Rec) : Type 0 where
  pub seen : State
  pub matched : is_match seen mask ≡ true
  pub made : IsBothMade (LoadedState t (Some mask) seen) (MadeRunnable t) old new

-- .. of the own current task
pub record IsReadAndStored (t : ℕ) (mask : State) (old new : List Rec) : Type 0 where
  pub seen : State
  pub matched : is_match seen mask ≡ true
  pub made : IsBothMade (LoadedState t (Some mask) seen) (StateSet t running) old new

-- t was claimed after its change m, and later queued on c by the next
pub record IsClaimedAndQueued (t c : ℕ) (old new : List Rec) : Type 0 where
  pub m : ℕ
  pub made : IsBothMade (Claimed t m) (Queued t c 0 m) old new
