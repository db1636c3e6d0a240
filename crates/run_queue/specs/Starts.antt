-- What a start adds to what its pass has done, by its answer.
use Rattle.std.specs.Prelude.{◌≡◌, ◌≢◌, ℕ, ◌∷◌, ◌⊎◌, List, None}
use Rattle.handoff_data.specs.declared.entry.Entry.TheVariants as entry
use Rattle.handoff_data.specs.declared.state.State.{State}
use Rattle.run_queue.specs.Queueing.{placed, pushed}
use Rattle.run_queue.specs.declared.answer.Start.{Start}
use Rattle.run_queue.specs.declared.answer.Start.TheVariants as start
use Rattle.task_words.specs.Queue.{Queue}
use Rattle.task_words.specs.Records.{Rec, Took, Gave, Queued, MadeRunnable, LoadedState, LoadedRq}
use Rattle.task_words.specs.Steps.{fresh}
use Rattle.task_words.specs.TaskVal.{TaskVal}
use Rattle.task_words.specs.Val.TheVariants as val
use Rattle.task_words.specs.Views.{PassView, logged}

-- TASK_RUNNING was stored, and t put at the back of the queue of c under its lock
abbrev pub queued_new : ℕ → ℕ → Queue → List Rec → List Rec
queued_new t c queue trace =
    Gave c (val.Queue queue) (val.Queue (pushed t queue)) ∷ Queued t c 0 0 ∷ Took c (val.Queue queue) ∷ MadeRunnable t
    ∷ trace

pub record IsQueuedNew (t c : ℕ) (old new : PassView) : Type 0 where
  pub queue : Queue
  pub did : new.trace ≡ queued_new t c queue old.trace
  pub turn : new.turn ≡ logged (entry.New t 1 c) old.turn

-- under the lock of t its state was read as TASK_NEW and the number of its changes as 0; it was placed on c and queued
-- there
pub record IsStarted (t c : ℕ) (old new : PassView) : Type 0 where
  pub task : TaskVal
  pub on : ℕ
  pub from : ℕ
  pub queue : Queue
  pub did : new.trace
      ≡ Gave t (val.Task task) (val.Task (record task { wake_cpu = c }))
      ∷ queued_new t c queue
      (placed t from c (LoadedRq t on 0 ∷ LoadedState t None fresh ∷ Took t (val.Task task) ∷ old.trace))
  pub turn : new.turn ≡ logged (entry.New t 1 c) old.turn

-- under the lock of t its state was read as another than TASK_NEW
pub record IsOther (t : ℕ) (seen : State) (old new : PassView) : Type 0 where
  pub task : TaskVal
  pub other : seen ≢ fresh
  pub did : new.trace
      ≡ Gave t (val.Task task) (val.Task task) ∷ LoadedState t None seen ∷ Took t (val.Task task) ∷ old.trace
  pub turn : new.turn ≡ old.turn

-- .. or as TASK_NEW, and the number of its changes as another than 0
pub record IsChanged (t : ℕ) (seen : State) (old new : PassView) : Type 0 where
  pub task : TaskVal
  pub on : ℕ
  pub m : ℕ
  pub unstarted : seen ≡ fresh
  pub changed : m ≢ 0
  pub did : new.trace
      ≡ Gave t (val.Task task) (val.Task task) ∷ LoadedRq t on m ∷ LoadedState t None fresh ∷ Took t (val.Task task)
      ∷ old.trace
  pub turn : new.turn ≡ old.turn

abbrev pub DidStart : ℕ → ℕ → PassView → PassView → Start → Type 0
DidStart t c old new (start.Started m) = (m ≡ 1) × IsStarted t c old new
DidStart t c old new (start.NotNew seen) = IsOther t seen old new ⊎ IsChanged t seen old new
