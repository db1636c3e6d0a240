-- What a turn of a processor did, in the words of a kernel's author.
use Rattle.std.specs.Prelude.{◌≡◌, ℕ, ◌*◌, ◌+◌, ◌++◌, ◌∷◌, [], Bool, true, false, List, Option, Some, None}
use Rattle.std.specs.Prelude.{slice_index_or}
use Rattle.core_data.specs.Queue.{Queue}
use Rattle.core_kinds.specs.Steps.{dead}
use Rattle.handoff_data.specs.declared.entry.Entry.{Entry}
use Rattle.handoff_data.specs.declared.entry.Entry.TheVariants as entry
use Rattle.pipe_bodies.specs.declared.verdict.Verdict.{Verdict}
use Rattle.run_cells.specs.NetMaps.{side_of}
use Rattle.run_cells.specs.Telling.{cleared}
use Rattle.run_cells.specs.declared.net_map.Inputs.{Inputs}
use Rattle.sched_switch.specs.Laws.{IsAtFront, HasFoundNone}
use Rattle.sched_switch.specs.Sleeps.{DidSleep}
use Rattle.sched_switch.specs.Switches.{looked}
use Rattle.sched_switch.specs.declared.answer.Slept.{Slept}
use Rattle.sched_switch.specs.declared.answer.Slept.TheVariants as slept
use Rattle.task_words.specs.Views.{PassView}
use Rattle.ttwu_core.specs.Orders.{IsSince}
use Rattle.word_steps.specs.Folds.{current_task}
use Rattle.word_steps.specs.Records.{Rec, Bumped, LoadedCond, OutBody, HomeBody}

-- The tasks that t reads, as the map has them.
abbrev pub inputs_at : List Inputs → ℕ → Inputs
inputs_at net t = slice_index_or net t (record { left = None; right = None })

-- Which conditions were raised

abbrev pub raised_by : Rec → List ℕ
raised_by (Bumped k v) = k ∷ []
raised_by step = []

-- the conditions that were raised in these steps, oldest first
abbrev pub raised_in : List Rec → List ℕ
raised_in [] = []
raised_in (r ∷ rs) = raised_in rs ++ raised_by r

-- From the old trace to the new one these conditions were raised, in this order, and no others.
pub record HasRaised (ks : List ℕ) (old new : List Rec) : Type 0 where
  pub added : List Rec
  pub did : new ≡ added ++ old
  pub raised : raised_in added ≡ ks

-- an item of the task x was taken: 2x + 1
abbrev pub for_taken : Option ℕ → List ℕ
for_taken None = []
for_taken (Some x) = (2 * x + 1) ∷ []

abbrev pub for_read : Inputs → Option ℕ → List ℕ
for_read inputs None = []
for_read inputs (Some side) = for_taken (side_of inputs side)

-- t put an item out: 2t
abbrev pub for_wrote : ℕ → Bool → List ℕ
for_wrote t false = []
for_wrote t true = (2 * t) ∷ []

-- What a turn of t raises by its body's verdict: for what was taken, and then for what was put out.
abbrev pub raises_of : Inputs → ℕ → Verdict → List ℕ
raises_of inputs t v = for_read inputs v.read ++ for_wrote t v.wrote

-- What was picked

-- The body of t had a turn in this call, after t was found at the front of the own queue under its lock.
pub record WasPickedAndRun (t : ℕ) (old new : PassView) : Type 0 where
  pub picked : PassView
  pub home : List Rec
  pub was : Bool
  pub ended : Bool
  pub front : IsAtFront t old picked
  pub before : IsSince picked.trace home
  pub turn : IsSince (HomeBody t ended ∷ OutBody t was ∷ home) new.trace

-- Nothing was at the front of the own queue when it was taken last in this call, and nothing was raised.
pub record HasIdled (old new : PassView) : Type 0 where
  pub none : HasFoundNone old new
  pub raised : HasRaised [] old.trace new.trace

-- How t went on

-- The condition k was loaded in this call as v, then the body of t had its turn, and then `sleep_on` was called with k
-- and v. After that a task is current only where another value was read, so that t doesn't sleep.
pub record HasWaited (t k : ℕ) (old new : PassView) : Type 0 where
  pub v : ℕ
  pub before : List Rec
  pub home : List Rec
  pub was : Bool
  pub ended : Bool
  pub asked : PassView
  pub made : PassView
  pub answer : Slept
  pub start : IsSince old.trace before
  pub loaded : IsSince (LoadedCond k v ∷ before) home
  pub turn : IsSince (HomeBody t ended ∷ OutBody t was ∷ home) asked.trace
  pub did : DidSleep k v asked made answer
  pub is_told : new ≡ cleared made
  pub stays : (u : ℕ) → current_task new.seat new.trace ≡ Some u → (now : ℕ) × (answer ≡ slept.Changed now)

-- The state of t was read as TASK_DEAD under the lock of the own queue, in the last switch of this call, by which it
-- left; its death and the end of its run are the last entries that were told.
pub record HasDiedNow (t : ℕ) (old new : PassView) : Type 0 where
  pub before : List Rec
  pub queue : Queue
  pub m : ℕ
  pub n : ℕ
  pub earlier : List Entry
  pub start : IsSince old.trace before
  pub left : IsSince (looked new.seat t dead queue before) new.trace
  pub told : new.told ≡ earlier ++ entry.Die t m new.seat ∷ entry.Finish t n new.seat ∷ []
