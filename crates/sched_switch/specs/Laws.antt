-- What switches and sleeps mean, in the words of a kernel's author.
use Rattle.std.specs.Prelude.{◌≡◌, ◌≢◌, ℕ, ◌+◌, ◌++◌, ◌∷◌, [], ◌⊎◌, Bool, true, false, List, Option, Some, None}
use Rattle.std.specs.Prelude.{slice_get}
use Rattle.core_data.specs.Queue.{Queue}
use Rattle.core_data.specs.Columns.{Columns}
use Rattle.core_kinds.specs.Steps.{is_sleep, dead, running}
use Rattle.core_law.specs.Laws.{Waits, IsOwedByASeat, NoLostWake}
use Rattle.handoff_data.specs.declared.entry.Entry.{Entry}
use Rattle.handoff_data.specs.declared.entry.Entry.TheVariants as entry
use Rattle.handoff_data.specs.declared.shape.Shape.{Shape}
use Rattle.handoff_data.specs.declared.state.State.{State}
use Rattle.run_queue.specs.Queueing.{pushed}
use Rattle.sched_switch.specs.Sleeps.{interruptible}
use Rattle.sched_switch.specs.Switches.{left_by, looked}
use Rattle.sched_switch.specs.declared.answer.Next.{Next}
use Rattle.sched_switch.specs.declared.answer.Next.TheVariants as asked
use Rattle.task_words.specs.Closing.{NoneMissed, IsStillOwed, IsExclusive, SleptLast, journals_in, traces_in}
use Rattle.task_words.specs.Views.{PassView}
use Rattle.ttwu_core.specs.Orders.{IsSince}
use Rattle.wait_queue.specs.Laws.{IsGone}
use Rattle.word_rule.specs.Standing.{is_runnable}
use Rattle.word_steps.specs.Folds.{current_task, is_asleep, tested}
use Rattle.word_steps.specs.Records.{Rec, Took, Gave, Dequeued, StateSet, LoadedCond}
use Rattle.word_steps.specs.declared.val.Val.TheVariants as val

-- The front of a queue

-- the task that stands as the next, if one does, else the first of those that wait
abbrev pub front_by : Option ℕ → List ℕ → Option ℕ
front_by (Some t) waiting = Some t
front_by None [] = None
front_by None (t ∷ ts) = Some t

abbrev pub front_of : Queue → Option ℕ
front_of queue = front_by queue.cur queue.waiting

-- The own queue was taken in this call, and t was at its front as it stood under the lock: as it was taken, or, where
-- the current task was put back under the same hold, with that at the back.
pub record IsAtFront (t : ℕ) (old new : PassView) : Type 0 where
  pub before : List Rec
  pub queue : Queue
  pub stood : Queue
  pub start : IsSince old.trace before
  pub taken : IsSince (Took old.seat (val.Queue queue) ∷ before) new.trace
  pub put_back : (stood ≡ queue) ⊎ ((current_task old.seat old.trace ≡ Some t) × (stood ≡ left_by t (pushed t queue)))
  pub front : front_of stood ≡ Some t

-- the own queue was taken last in this call with nothing at its front, and given as it was
pub record HasFoundNone (old new : PassView) : Type 0 where
  pub before : List Rec
  pub queue : Queue
  pub start : IsSince old.trace before
  pub did : new.trace ≡ Gave old.seat (val.Queue queue) (val.Queue queue) ∷ Took old.seat (val.Queue queue) ∷ before
  pub none : front_of queue ≡ None

-- By which state a task left

-- The state of t was read under the lock of the own queue, and decided what became of it: put back, asleep or dead. The
-- run of t ended with it. Where a task was asked for, one is put back only while another waits.
pub record HasLeftBy (next : Next) (t : ℕ) (old new : PassView) : Type 0 where
  pub state : State
  pub queue : Queue
  pub n : ℕ
  pub read : IsSince (looked old.seat t state queue old.trace) new.trace
  pub kinds : (is_runnable state ≡ true) ⊎ ((is_sleep state ≡ true) ⊎ (state ≡ dead))
  pub others : next ≡ asked.Task → is_runnable state ≡ true → queue.waiting ≢ []
  pub back : is_runnable state ≡ true → new.turn.entries ≡ old.turn.entries ++ entry.Finish t n old.seat ∷ []
  pub sleeps : is_sleep state ≡ true
      → (m : ℕ) × (new.turn.entries ≡ old.turn.entries ++ entry.Sleep t m old.seat ∷ entry.Finish t n old.seat ∷ [])
  pub dies : state ≡ dead
      → (m : ℕ) × (new.turn.entries ≡ old.turn.entries ++ entry.Die t m old.seat ∷ entry.Finish t n old.seat ∷ [])

-- .. and only then whatever else the switch did
pub record HasLeftFirst (next : Next) (t : ℕ) (old new : PassView) : Type 0 where
  pub between : PassView
  pub left : HasLeftBy next t old between
  pub later : IsSince between.trace new.trace
  pub picks : List Entry
  pub entries : new.turn.entries ≡ between.turn.entries ++ picks

-- A sleep

-- whether a state of the seat's own task was stored
abbrev pub has_own_store : List Rec → Bool
has_own_store [] = false
has_own_store (StateSet t state ∷ rs) = true
has_own_store (r ∷ rs) = has_own_store rs

-- The current task stored TASK_INTERRUPTIBLE, after it read the condition k as v, and after that was taken off its
-- queue by its change of number m; it stored no state of its own between them.
pub record HasTestedFirst (k v m : ℕ) (old new : PassView) : Type 0 where
  pub t : ℕ
  pub before : ℕ
  pub first : List Rec
  pub second : List Rec
  pub third : List Rec
  pub last : List Rec
  pub current : current_task old.seat old.trace ≡ Some t
  pub number : m ≡ before + 1
  pub did : new.trace
      ≡ last ++ Dequeued t old.seat before ∷ third ++ LoadedCond k v ∷ second ++ StateSet t interruptible ∷ first
      ++ old.trace
  pub untouched : has_own_store (third ++ LoadedCond k v ∷ second) ≡ false

-- The current task read k as another value than v, and after that stored TASK_RUNNING and left no entry there; it made
-- no entry of its journal.
pub record HasFoundChanged (k v now : ℕ) (old new : PassView) : Type 0 where
  pub t : ℕ
  pub before : List Rec
  pub current : current_task old.seat old.trace ≡ Some t
  pub start : IsSince old.trace before
  pub other : now ≢ v
  pub runs : IsSince (StateSet t running ∷ LoadedCond k now ∷ before) new.trace
  pub gone : IsGone k old.seat (LoadedCond k now ∷ before) new.trace
  pub turn : new.turn ≡ old.turn

-- the task t was put to sleep at k with the value v, as the trace of its seat tells
pub record IsAsleepAt (k v t : ℕ) (pass : PassView) : Type 0 where
  pub asleep : is_asleep pass.seat pass.trace t k ≡ true
  pub test : tested pass.seat pass.trace t k ≡ Some v

-- As a table with this pass is closed, a task whose last change is such a sleep was woken, or the condition has the
-- value still, or a pass owes it a walk; nothing is said of one whose own entry there is exclusive.
abbrev pub IsNotMissedAtEnd : ℕ → ℕ → ℕ → PassView → Type 0
IsNotMissedAtEnd k v t pass =
    (shape : Shape) (passes : List PassView) (states : List State) (conds : List ℕ) (state : State) (count : ℕ)
    → NoneMissed shape passes states conds → traces_in passes pass.seat ≡ pass.trace
    → SleptLast (journals_in shape passes) pass.seat t → slice_get states t ≡ Some state
    → slice_get conds k ≡ Some count
    → (is_sleep state ≡ false) ⊎ ((count ≡ v) ⊎ (IsStillOwed passes k t ⊎ IsExclusive passes pass.seat t k))

-- At each moment at which the table tells the same of the pass, a task that sleeps with an entry at k is owed a walk
-- where the condition has another value.
abbrev pub IsNotMissed : ℕ → ℕ → ℕ → PassView → Type 0
IsNotMissed k v t pass =
    (core : Columns) → NoLostWake core → core.cpu t ≡ pass.seat
    → core.tested pass.seat t k ≡ tested pass.seat pass.trace t k
    → is_sleep (core.state t) ≡ true → Waits core k t → v ≢ core.cond k → IsOwedByASeat core k t
