-- One record a step of a seat. A seat's trace has them newest first.
use Rattle.std.specs.Prelude.{ℕ, Bool, Option}
use Rattle.handoff_data.specs.declared.state.State.{State}
use Rattle.word_steps.specs.declared.val.Val.{Val}

-- t is a task, c a processor, k a condition, n whatever the lock is of
pub data Rec : Type 0 where
  -- the lock of n was taken, with this value under it; the value tells which sort of lock it is
  Took : (n : ℕ) (taken : Val) → Rec
  -- it was given, the value as it was taken and as it was given
  Gave : (n : ℕ) (taken given : Val) → Rec
  -- the body of t was taken out, or put home, and whether it has ended
  OutBody : (t : ℕ) (ended : Bool) → Rec
  HomeBody : (t : ℕ) (ended : Bool) → Rec
  -- the queue word of t was stored as queued, off, or moving; `on` and `m` are what it was
  Queued : (t c on m : ℕ) → Rec
  Dequeued : (t c m : ℕ) → Rec
  Moved : (t c m : ℕ) → Rec
  -- the busy word of t was set or cleared; n is the number that it had
  SetBusy : (t c n : ℕ) → Rec
  ClearedBusy : (t n : ℕ) → Rec
  -- the current task's state was stored
  StateSet : (t : ℕ) (state : State) → Rec
  -- TASK_WAKING was stored; m is the number of the changes of t
  Claimed : (t m : ℕ) → Rec
  -- TASK_RUNNING was stored
  MadeRunnable : (t : ℕ) → Rec
  -- the state was loaded, to be held against a mask or not
  LoadedState : (t : ℕ) (mask : Option State) (state : State) → Rec
  LoadedRq : (t on m : ℕ) → Rec
  LoadedBusy : (t : ℕ) (busy : Bool) (n : ℕ) → Rec
  LoadedCpu : (t c : ℕ) → Rec
  LoadedCount : (t level : ℕ) → Rec
  StoredCpu : (t c : ℕ) → Rec
  -- the condition was raised by one from v
  Bumped : (k v : ℕ) → Rec
  LoadedCond : (k v : ℕ) → Rec
