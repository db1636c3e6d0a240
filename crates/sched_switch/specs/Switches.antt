-- What a switch adds to what its pass has done, by its answer.
use Rattle.std.specs.Prelude.{◌≡◌, ◌≢◌, ℕ, ◌+◌, ◌++◌, ◌∷◌, [], ◌⊎◌, true, List, Some, None}
use Rattle.core_data.specs.Queue.{Queue}
use Rattle.core_kinds.specs.Running.{dequeue_entry}
use Rattle.core_kinds.specs.Steps.{is_sleep, dead}
use Rattle.handoff_data.specs.declared.entry.Entry.{Entry}
use Rattle.handoff_data.specs.declared.entry.Entry.TheVariants as entry
use Rattle.handoff_data.specs.declared.state.State.{State}
use Rattle.run_queue.specs.Queueing.{pushed}
use Rattle.sched_switch.specs.declared.answer.Next.{Next}
use Rattle.sched_switch.specs.declared.answer.Next.TheVariants as asked
use Rattle.sched_switch.specs.declared.answer.Out.{Out}
use Rattle.sched_switch.specs.declared.answer.Out.TheVariants as out
use Rattle.sched_switch.specs.declared.answer.Switch.{Switch}
use Rattle.sched_switch.specs.declared.answer.Switch.TheVariants as switch
use Rattle.task_words.specs.Views.{PassView, logged}
use Rattle.word_rule.specs.Own.{IsStill, last_own}
use Rattle.word_rule.specs.Standing.{is_runnable}
use Rattle.word_steps.specs.Folds.{current_task}
use Rattle.word_steps.specs.Records.{Rec, Took, Gave, Dequeued, SetBusy, ClearedBusy, LoadedState, LoadedCount}
use Rattle.word_steps.specs.declared.val.Val.TheVariants as val

-- the queue of a processor once its task t has left the processor
abbrev pub left_by : ℕ → Queue → Queue
left_by t queue = record queue { cur = None; left = Some t }

-- under the lock of the own queue the state of the current task was read, and its migrate-disable level, as 0
abbrev pub looked : ℕ → ℕ → State → Queue → List Rec → List Rec
looked s t state queue trace = LoadedCount t 0 ∷ LoadedState t None state ∷ Took s (val.Queue queue) ∷ trace

-- The current task t was read as in this state: the one that its seat has stored last since it picked it, if it has
-- stored any, unless it was woken since; nobody wakes the dead.
pub record IsReadAs (t : ℕ) (state : State) (old : PassView) : Type 0 where
  pub current : current_task old.seat old.trace ≡ Some t
  pub still : (stored : State) → last_own old.trace t ≡ Some stored → IsStill stored state

-- The current task leaves, or stays

-- Read as TASK_RUNNING or TASK_NEW, it went to the back of the queue, in which others waited where a task is asked for;
-- its busy word was cleared once the lock was given.
pub record IsPutBack (next : Next) (t : ℕ) (state : State) (old new : PassView) : Type 0 where
  pub read : IsReadAs t state old
  pub runs : is_runnable state ≡ true
  pub queue : Queue
  pub others : next ≡ asked.Task → queue.waiting ≢ []
  pub n : ℕ
  pub did : new.trace
      ≡ ClearedBusy t n ∷ Gave old.seat (val.Queue queue) (val.Queue (left_by t (pushed t queue)))
      ∷ looked old.seat t state queue old.trace
  pub turn : new.turn ≡ logged (entry.Finish t (n + 1) old.seat) old.turn
  pub same_seat : new.seat ≡ old.seat

-- read as in a sleep state, or as TASK_DEAD, it was taken off the queue by its change of number m: it sleeps, or is
-- dead
pub record IsGone (t : ℕ) (state : State) (m : ℕ) (old new : PassView) : Type 0 where
  pub read : IsReadAs t state old
  pub stops : (is_sleep state ≡ true) ⊎ (state ≡ dead)
  pub queue : Queue
  pub before : ℕ
  pub n : ℕ
  pub number : m ≡ before + 1
  pub did : new.trace
      ≡ ClearedBusy t n ∷ Gave old.seat (val.Queue queue) (val.Queue (left_by t queue)) ∷ Dequeued t old.seat before
      ∷ looked old.seat t state queue old.trace
  pub turn : new.turn
      ≡ logged (entry.Finish t (n + 1) old.seat) (logged (dequeue_entry (Some state) before t old.seat) old.turn)
  pub same_seat : new.seat ≡ old.seat

-- read as TASK_RUNNING or TASK_NEW, and nobody else waits: at the back it would be at the front, and is picked again
pub record IsKept (t : ℕ) (old new : PassView) : Type 0 where
  pub state : State
  pub read : IsReadAs t state old
  pub runs : is_runnable state ≡ true
  pub queue : Queue
  pub alone : queue.waiting ≡ []
  pub did : new.trace ≡ Gave old.seat (val.Queue queue) (val.Queue queue) ∷ looked old.seat t state queue old.trace
  pub turn : new.turn ≡ old.turn

abbrev pub DidSwitchOut : ℕ → Next → PassView → PassView → Out → Type 0
DidSwitchOut t next old new out.Stays = (next ≡ asked.Task) × IsKept t old new
DidSwitchOut t next old new out.Back = (state : State) × IsPutBack next t state old new
DidSwitchOut t next old new (out.Gone m) = (state : State) × IsGone t state m old new

-- no task was current, or it left
abbrev pub HasLeft : Next → PassView → PassView → Type 0
HasLeft next old new =
    ((current_task old.seat old.trace ≡ None) × (new ≡ old))
    ⊎ (((t : ℕ) × (state : State) × IsPutBack next t state old new)
    ⊎ ((t : ℕ) × (state : State) × (m : ℕ) × IsGone t state m old new))

-- The next one is picked

-- nobody was next, and the first of those that wait was picked
pub record IsFirstPicked (t : ℕ) (old new : PassView) : Type 0 where
  pub queue : Queue
  pub rest : List ℕ
  pub n : ℕ
  pub nobody : queue.cur ≡ None
  pub first : queue.waiting ≡ t ∷ rest
  pub did : new.trace
      ≡ Gave old.seat (val.Queue queue) (val.Queue (record queue { waiting = rest; cur = Some t }))
      ∷ SetBusy t old.seat n ∷ Took old.seat (val.Queue queue) ∷ old.trace
  pub turn : new.turn ≡ logged (entry.Pick t (n + 1) old.seat) old.turn

-- a task stood as the next already, without being current, and was picked
pub record IsNextPicked (t : ℕ) (old new : PassView) : Type 0 where
  pub queue : Queue
  pub n : ℕ
  pub next : queue.cur ≡ Some t
  pub did : new.trace
      ≡ Gave old.seat (val.Queue queue) (val.Queue queue) ∷ SetBusy t old.seat n ∷ Took old.seat (val.Queue queue)
      ∷ old.trace
  pub turn : new.turn ≡ logged (entry.Pick t (n + 1) old.seat) old.turn

abbrev pub IsPicked : ℕ → PassView → PassView → Type 0
IsPicked t old new = IsFirstPicked t old new ⊎ IsNextPicked t old new

-- nobody was next and nobody waited
pub record IsEmpty (old new : PassView) : Type 0 where
  pub queue : Queue
  pub nobody : queue.cur ≡ None
  pub none : queue.waiting ≡ []
  pub did : new.trace ≡ Gave old.seat (val.Queue queue) (val.Queue queue) ∷ Took old.seat (val.Queue queue) ∷ old.trace
  pub turn : new.turn ≡ old.turn

-- from a pass without a current task
abbrev pub DidPick : Next → PassView → PassView → Switch → Type 0
DidPick asked.Task old new (switch.Running t) = IsPicked t old new
DidPick asked.Task old new switch.Idle = IsEmpty old new
DidPick asked.Nobody old new switch.Nobody = new ≡ old
DidPick next old new answer = ⊥

-- the current task stays, or it leaves and then the next one is picked, under a new hold of the lock
abbrev pub DidSwitch : Next → PassView → PassView → Switch → Type 0
DidSwitch asked.Task old new (switch.Running t) =
    IsKept t old new ⊎ ((between : PassView) × HasLeft asked.Task old between × IsPicked t between new)
DidSwitch asked.Task old new switch.Idle = (between : PassView) × HasLeft asked.Task old between × IsEmpty between new
DidSwitch asked.Nobody old new switch.Nobody = HasLeft asked.Nobody old new
DidSwitch next old new answer = ⊥

-- The turn got the death of t, by its change of number m, and with it the end of its run.
pub record HasDied (t : ℕ) (old new : PassView) : Type 0 where
  pub m : ℕ
  pub n : ℕ
  pub later : List Entry
  pub entries : new.turn.entries
      ≡ old.turn.entries ++ entry.Die t m old.seat ∷ entry.Finish t n old.seat ∷ later
