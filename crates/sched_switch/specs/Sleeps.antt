-- What a sleep adds to what its pass has done, by its answer.
use Rattle.std.specs.Prelude.{◌≡◌, ◌≢◌, ℕ, ◌∷◌, false, List}
use Rattle.core_kinds.specs.Steps.{running}
use Rattle.handoff_data.specs.declared.state.State.{State}
use Rattle.sched_switch.specs.Switches.{IsPutBack, IsGone}
use Rattle.sched_switch.specs.declared.answer.Next.TheVariants as asked
use Rattle.sched_switch.specs.declared.answer.Slept.{Slept}
use Rattle.sched_switch.specs.declared.answer.Slept.TheVariants as slept
use Rattle.task_words.specs.Views.{PassView}
use Rattle.wait_queue.specs.Entering.{IsPrepared, IsFinished}
use Rattle.word_steps.specs.Records.{Rec, LoadedCond}

-- TASK_INTERRUPTIBLE
abbrev pub interruptible : State
interruptible = record { 0 = 1 }

-- the current task's entry was put in at k and TASK_INTERRUPTIBLE stored, and after that the condition read as w
pub record IsTested (k w : ℕ) (old new : PassView) : Type 0 where
  pub prepared : List Rec
  pub entered : IsPrepared k false interruptible old.seat old.trace prepared
  pub did : new.trace ≡ LoadedCond k w ∷ prepared
  pub turn : new.turn ≡ old.turn
  pub same_seat : new.seat ≡ old.seat

-- .. as the value slept for, and the task went to sleep by its change of number m
pub record HasSlept (k v m : ℕ) (old new : PassView) : Type 0 where
  pub t : ℕ
  pub between : PassView
  pub tested : IsTested k v old between
  pub gone : IsGone t interruptible m between new

-- .. but the task was read as TASK_RUNNING, and was put back
pub record WasWoken (k v : ℕ) (old new : PassView) : Type 0 where
  pub t : ℕ
  pub between : PassView
  pub tested : IsTested k v old between
  pub back : IsPutBack asked.Nobody t running between new

-- .. as another value, and the entry was taken out again
pub record HasChanged (k v now : ℕ) (old new : PassView) : Type 0 where
  pub between : PassView
  pub tested : IsTested k now old between
  pub other : now ≢ v
  pub finished : IsFinished k between.seat between.trace new.trace
  pub turn : new.turn ≡ between.turn
  pub same_seat : new.seat ≡ between.seat

abbrev pub DidSleep : ℕ → ℕ → PassView → PassView → Slept → Type 0
DidSleep k v old new (slept.Slept m) = HasSlept k v m old new
DidSleep k v old new slept.Woken = WasWoken k v old new
DidSleep k v old new (slept.Changed now) = HasChanged k v now old new
