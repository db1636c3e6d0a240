-- What a turn of a processor adds to what its pass has done: the lower calls in their order, each of which is told.
use Rattle.std.specs.Prelude.{◌≡◌, ◌<◌, ◌≤◌, ℕ, ◌∷◌, ◌⊎◌, Bool, List, Option, Some, None, slice_index_or}
use Rattle.core_kinds.specs.Steps.{dead}
use Rattle.handoff_data.specs.declared.shape.Shape.{Shape}
use Rattle.pipe_bodies.specs.declared.verdict.Then.{Then}
use Rattle.pipe_bodies.specs.declared.verdict.Then.TheVariants as verdict
use Rattle.pipe_bodies.specs.declared.verdict.Verdict.{Verdict}
use Rattle.run_cells.specs.Telling.{cleared}
use Rattle.run_cells.specs.declared.net_map.Inputs.{Inputs}
use Rattle.run_turns.specs.Conds.{read_cond, wrote_cond, wait_cond, wait_value, loads_of}
use Rattle.run_turns.specs.Deaths.{HasDied}
use Rattle.run_queue.specs.Starts.{DidStart}
use Rattle.run_queue.specs.declared.answer.Start.{Start}
use Rattle.run_turns.specs.declared.loads.Values.{Values}
use Rattle.run_turns.specs.declared.turn.Turned.{Turned}
use Rattle.run_turns.specs.declared.turn.Turned.TheVariants as turned
use Rattle.sched_switch.specs.Currents.{current_slept}
use Rattle.sched_switch.specs.Sleeps.{DidSleep}
use Rattle.sched_switch.specs.Switches.{DidSwitch}
use Rattle.sched_switch.specs.declared.answer.Next.{Next}
use Rattle.sched_switch.specs.declared.answer.Next.TheVariants as asked
use Rattle.sched_switch.specs.declared.answer.Slept.{Slept}
use Rattle.sched_switch.specs.declared.answer.Switch.{Switch}
use Rattle.sched_switch.specs.declared.answer.Switch.TheVariants as switch
use Rattle.task_words.specs.TaskVal.{TaskVal}
use Rattle.task_words.specs.Views.{PassView}
use Rattle.wait_queue.specs.Entering.{IsFinished}
use Rattle.wait_queue.specs.Walks.{IsRaisedAndWalked}
use Rattle.word_rule.specs.Own.{last_own}
use Rattle.word_steps.specs.Folds.{current_task}
use Rattle.word_steps.specs.Records.{Rec, Took, Gave, StateSet, OutBody, HomeBody}
use Rattle.word_steps.specs.declared.val.Val.TheVariants as val

-- a new task was started on c, and that told
pub record WasStarted (t c : ℕ) (old new : PassView) : Type 0 where
  pub answer : Start
  pub made : PassView
  pub did : DidStart t c old made answer
  pub is_told : new ≡ cleared made

-- `schedule` was called, and told
pub record WasSwitched (next : Next) (answer : Switch) (old new : PassView) : Type 0 where
  pub made : PassView
  pub did : DidSwitch next old made answer
  pub is_told : new ≡ cleared made

-- a condition was raised, those who wait for it woken, and all told
pub record WasRaised (shape : Shape) (k : ℕ) (old new : PassView) : Type 0 where
  pub made : PassView
  pub woken : ℕ
  pub did : IsRaisedAndWalked shape k old made woken
  pub is_told : new ≡ cleared made

-- .. or none
abbrev pub WereRaised : Shape → Option ℕ → PassView → PassView → Type 0
WereRaised shape None old new = new ≡ old
WereRaised shape (Some k) old new = WasRaised shape k old new

-- `sleep_on` was called with the condition k and the value v, and told: the task is still current only where another
-- value was read
pub record WasSentToSleep (k v : ℕ) (old new : PassView) : Type 0 where
  pub answer : Slept
  pub made : PassView
  pub did : DidSleep k v old made answer
  pub is_current : current_task made.seat made.trace ≡ current_slept (current_task old.seat old.trace) answer
  pub is_told : new ≡ cleared made

abbrev pub Sleeps : Option ℕ → ℕ → PassView → PassView → Type 0
Sleeps None v old new = new ≡ old
Sleeps (Some k) v old new = WasSentToSleep k v old new

-- under the lock of t TASK_DEAD was stored as its state
pub record IsMarked (t : ℕ) (old new : PassView) : Type 0 where
  pub task : TaskVal
  pub did : new.trace
      ≡ Gave t (val.Task task) (val.Task task) ∷ StateSet t dead ∷ Took t (val.Task task) ∷ old.trace
  pub current : current_task new.seat new.trace ≡ Some t
  pub marks : last_own new.trace t ≡ Some dead

-- t, which is current, was marked so, then it left its processor, and died; and that is told
pub record Dies (t : ℕ) (old new : PassView) : Type 0 where
  pub marked : PassView
  pub marks : IsMarked t old marked
  pub answer : Switch
  pub left : WasSwitched asked.Nobody answer marked new
  pub died : HasDied new.told t

-- by its body's verdict the task goes on, sleeps or dies
abbrev pub GoesAs : Inputs → Values → ℕ → Then → PassView → PassView → Type 0
GoesAs inputs values t verdict.Exit old new = Dies t old new
GoesAs inputs values t then old new = Sleeps (wait_cond inputs t then) (wait_value values then) old new

-- after the turn of its body: what was taken is told to its writer, what was put out to its reader, and then the task
-- goes on
pub record GoesOnAfter
    (shape : Shape)
    (inputs : Inputs)
    (values : Values)
    (t : ℕ)
    (v : Verdict)
    (old new : PassView)
    : Type 0 where
  pub read : PassView
  pub wrote : PassView
  pub raised_read : WereRaised shape (read_cond inputs v.read) old read
  pub raised_wrote : WereRaised shape (wrote_cond t v.wrote) read wrote
  pub goes : GoesAs inputs values t v.then wrote new

-- the cell of t was looked into: its body was out, and came home as it was
abbrev pub looked_in : ℕ → Bool → List Rec → List Rec
looked_in t ended trace = HomeBody t ended ∷ OutBody t ended ∷ trace

pub record LookedIn (t : ℕ) (old new : PassView) : Type 0 where
  pub ended : Bool
  pub did : new.trace ≡ looked_in t ended old.trace

-- where the cell kept one of so many conditions, the current task has left that
abbrev pub LeavesKept : ℕ → Option ℕ → PassView → PassView → Type 0
LeavesKept conds None old new = new ≡ old
LeavesKept conds (Some k) old new =
    (k < conds → IsFinished k old.seat old.trace new.trace) × (conds ≤ k → new ≡ old)

-- .. and where it kept a condition, that was left
pub record HasLeftCond (t : ℕ) (old new : PassView) : Type 0 where
  pub ended : Bool
  pub left :
      (new.trace ≡ looked_in t ended old.trace)
      ⊎ ((k : ℕ) × IsFinished k old.seat (looked_in t ended old.trace) new.trace)

-- the body of t had its turn
pub record HadTurn (t : ℕ) (old new : PassView) : Type 0 where
  pub was : Bool
  pub ended : Bool
  pub did : new.trace ≡ HomeBody t ended ∷ OutBody t was ∷ old.trace

-- t, which is current, had a turn: it left the condition at which it waited, its conditions were loaded, and then its
-- body had its turn
pub record HasRun (shape : Shape) (inputs : Inputs) (t : ℕ) (v : Verdict) (old new : PassView) : Type 0 where
  pub left : PassView
  pub loaded : PassView
  pub turned : PassView
  pub values : Values
  pub leaves : HasLeftCond t old left
  pub loads : loaded.trace ≡ loads_of t inputs values left.trace
  pub had : HadTurn t loaded turned
  pub after : GoesOnAfter shape inputs values t v turned new

-- by its answer: nothing was in the queue; or t was picked, which reads the tasks that the map has for it, and had a
-- turn
abbrev pub DidTurn : Shape → List Inputs → Turned → PassView → PassView → Type 0
DidTurn shape net turned.Idle old new = WasSwitched asked.Task switch.Idle old new
DidTurn shape net (turned.Ran t v) old new =
    (picked : PassView) × (inputs : Inputs) × ((d : Inputs) → inputs ≡ slice_index_or net t d)
    × WasSwitched asked.Task (switch.Running t) old picked × HasRun shape inputs t v picked new
