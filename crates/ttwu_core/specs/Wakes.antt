-- What the wake-up of another task adds to what its pass has done, by its answer.
use Rattle.std.specs.Prelude.{◌≡◌, ◌≢◌, ℕ, ◌+◌, ◌∷◌, true, false, List, Option, Some, IfSome}
use Rattle.handoff_data.specs.declared.entry.Entry.TheVariants as entry
use Rattle.handoff_data.specs.declared.shape.Shape.{Shape}
use Rattle.handoff_data.specs.declared.state.State.{State}
use Rattle.run_queue.specs.Queueing.{placed}
use Rattle.task_words.specs.Queue.{Queue}
use Rattle.task_words.specs.Records.{Rec, Took, Gave, Claimed, LoadedState}
use Rattle.task_words.specs.Steps.{is_match}
use Rattle.task_words.specs.TaskVal.{TaskVal}
use Rattle.task_words.specs.Val.TheVariants as val
use Rattle.task_words.specs.Views.{PassView, logged}
use Rattle.ttwu_core.specs.Claims.{awaited_clear, queued_woken, IsChosen}
use Rattle.ttwu_core.specs.Finds.{Look, Left, IsLeft, off_reads, made_runnable_there}
use Rattle.ttwu_core.specs.declared.answers.How.TheVariants as how
use Rattle.ttwu_core.specs.declared.answers.Wake.{Wake}
use Rattle.ttwu_core.specs.declared.answers.Wake.TheVariants as wake

-- the lock of t was taken, and its state read and held against the mask
abbrev pub tested : ℕ → TaskVal → State → State → List Rec → List Rec
tested t task mask seen trace = LoadedState t (Some mask) seen ∷ Took t (val.Task task) ∷ trace

-- the state has no bit of the mask, which the journal notes
pub record IsRefused (t : ℕ) (mask seen : State) (old new : PassView) : Type 0 where
  pub task : TaskVal
  pub unmatched : is_match seen mask ≡ false
  pub did : new.trace ≡ Gave t (val.Task task) (val.Task task) ∷ tested t task mask seen old.trace
  pub turn : new.turn ≡ logged (entry.Refused t seen) old.turn

-- it has, and t was still queued
pub record IsRunnableStill (t : ℕ) (mask : State) (old new : PassView) : Type 0 where
  pub task : TaskVal
  pub seen : State
  pub look : Look
  pub matched : is_match seen mask ≡ true
  pub queued : look.first.on ≢ 0
  pub there : look.second.on ≡ 1
  pub did : new.trace
      ≡ Gave t (val.Task task) (val.Task task) ∷ made_runnable_there t look (tested t task mask seen old.trace)
  pub turn : new.turn ≡ old.turn

-- .. and t was off every queue after m changes, was claimed, read as clear, placed on c and queued there
pub record IsQueuedAgain (t : ℕ) (mask : State) (shape : Shape) (c : ℕ) (old new : PassView) : Type 0 where
  pub task : TaskVal
  pub seen : State
  pub left : Option Left
  pub m : ℕ
  pub n : ℕ
  pub waits : List ℕ
  pub from : ℕ
  pub queue : Queue
  pub matched : is_match seen mask ≡ true
  pub changed : m ≢ 0
  pub left_so : IfSome left IsLeft
  pub chosen : IsChosen task shape c
  pub did : new.trace
      ≡ Gave t (val.Task task) (val.Task (record task { wake_cpu = c }))
      ∷ queued_woken t c m queue
      (placed t from c
      (awaited_clear t n waits (Claimed t m
      ∷ off_reads t left m (tested t task mask seen old.trace))))
  pub turn : new.turn ≡ logged (entry.Enq t (m + 1) c false) (logged (entry.Wake t m) old.turn)

abbrev pub DidWake : ℕ → State → Shape → PassView → PassView → Wake → Type 0
DidWake t mask shape old new (wake.NoMatch seen) = IsRefused t mask seen old new
DidWake t mask shape old new (wake.Woke how.Runnable) = IsRunnableStill t mask old new
DidWake t mask shape old new (wake.Woke (how.Queued c)) = IsQueuedAgain t mask shape c old new
DidWake t mask shape old new other = ⊥
