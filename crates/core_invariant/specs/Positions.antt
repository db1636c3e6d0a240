-- What a seat may rely on, by what it has read and stored since it took the locks that it holds.
use Rattle.std.specs.Prelude.{◌≡◌, ◌≢◌, ℕ, ◌≤◌, ◌⊎◌, Bool, true, false, Option, Some}
use Rattle.core_data.specs.Columns.{Columns}
use Rattle.core_data.specs.declared.pos.Rq.{Rq}
use Rattle.core_data.specs.declared.pos.TaskReads.{TaskReads}
use Rattle.core_invariant.specs.Histories.{history}
use Rattle.core_kinds.specs.Steps.{waking, dead, is_sleep}
use Rattle.handoff_data.specs.History.{History}
use Rattle.handoff_data.specs.Positions.{IsSomewhere}
use Rattle.handoff_data.specs.Rules.{IsQueued}
use Rattle.handoff_data.specs.declared.entry.Entry.TheVariants as entry
use Rattle.handoff_data.specs.declared.state.State.{State}

-- under its lock a state of t was read that matches, with no word of t stored since: t is queued, or asleep off its
-- queue
pub record MatchedTasks (state : ℕ → State) (on_rq changes : ℕ → ℕ) (lock : ℕ → Option ℕ)
    (unstored saw_off : ℕ → ℕ → Bool) : Type 0 where
  pub started : (s t : ℕ) → lock t ≡ Some s → unstored s t ≡ true → changes t ≢ 0
  pub alive : (s t : ℕ) → lock t ≡ Some s → unstored s t ≡ true → state t ≢ dead
  pub stands : (s t : ℕ) → lock t ≡ Some s → unstored s t ≡ true → (on_rq t ≡ 1)
      ⊎ ((on_rq t ≡ 0) × (is_sleep (state t) ≡ true))
  -- .. and then `on_rq` was read as 0
  pub saw_after : (s t : ℕ) → saw_off s t ≡ true → unstored s t ≡ true
  pub off : (s t : ℕ) → lock t ≡ Some s → saw_off s t ≡ true → on_rq t ≡ 0

-- TASK_WAKING was stored, and the task not queued since
pub record ClaimedTasks (state : ℕ → State) (on_rq : ℕ → ℕ) (on_cpu : ℕ → Bool) (lock : ℕ → Option ℕ)
    (claimed clear : ℕ → ℕ → Bool) : Type 0 where
  pub locked : (s t : ℕ) → claimed s t ≡ true → lock t ≡ Some s
  pub off : (s t : ℕ) → claimed s t ≡ true → on_rq t ≡ 0
  pub awaits : (s t : ℕ) → claimed s t ≡ true → state t ≡ waking
  -- .. and then the busy word was read as clear
  pub idle : (s t : ℕ) → claimed s t ≡ true → clear s t ≡ true → on_cpu t ≡ false

-- a state that isn't TASK_WAKING was read under the lock, then `on_rq` as 0, then the busy word as clear, with no word
-- of t stored between
pub record RestingTasks (state : ℕ → State) (on_rq : ℕ → ℕ) (on_cpu : ℕ → Bool) (lock : ℕ → Option ℕ)
    (rest_state rest_off rest_idle : ℕ → ℕ → Bool) : Type 0 where
  pub rests : (s t : ℕ) → lock t ≡ Some s → rest_state s t ≡ true → state t ≢ waking
  pub off_after : (s t : ℕ) → rest_off s t ≡ true → rest_state s t ≡ true
  pub off : (s t : ℕ) → lock t ≡ Some s → rest_off s t ≡ true → on_rq t ≡ 0
  pub idle_after : (s t : ℕ) → rest_idle s t ≡ true → rest_off s t ≡ true
  pub idle : (s t : ℕ) → lock t ≡ Some s → rest_idle s t ≡ true → on_cpu t ≡ false

-- the state of its current task that a seat has read under its own queue's lock, with none stored since
pub record SeenStates (cpus : ℕ) (state : ℕ → State) (on_rq : ℕ → ℕ) (queue_lock current : ℕ → Option ℕ)
    (seen : ℕ → Option State) : Type 0 where
  pub locked : (s : ℕ) (x : State) → seen s ≡ Some x → queue_lock s ≡ Some s
  pub is : (s t : ℕ) (x : State) → current s ≡ Some t → on_rq t ≡ 1 → seen s ≡ Some x → state t ≡ x

-- under the lock of its queue the busy word of t was read as clear, or t was put there: it is clear unless the seat
-- picks t
pub record IdleTasks (on_rq cpu : ℕ → ℕ) (on_cpu : ℕ → Bool) (queue_lock current : ℕ → Option ℕ)
    (idle added : ℕ → ℕ → ℕ → Bool) : Type 0 where
  pub read : (s c t : ℕ) → queue_lock c ≡ Some s → idle s c t ≡ true → on_rq t ≡ 1 → cpu t ≡ c → (on_cpu t ≡ false)
      ⊎ (current s ≡ Some t)
  pub put : (s c t : ℕ) → queue_lock c ≡ Some s → added s c t ≡ true → on_rq t ≡ 1 → cpu t ≡ c → (on_cpu t ≡ false)
      ⊎ (current s ≡ Some t)

-- a state of t was matched under its lock, whatever was stored since: while t is queued, and isn't the current task of
-- the seat that has the lock, it isn't dead
abbrev pub MadeRunnableTasks : (ℕ → State) → (ℕ → ℕ) → (ℕ → Option ℕ) → (ℕ → Option ℕ) → (ℕ → ℕ → Bool) → Type 0
MadeRunnableTasks state on_rq lock current matched =
    (s t : ℕ) → lock t ≡ Some s → matched s t ≡ true → on_rq t ≡ 1 → current s ≢ Some t → state t ≢ dead

-- What was read of `on_rq` under the lock of t, after its state and with no word of t stored since, is what an entry
-- tells: t was queued on its processor by that change, or left its queue by it.
pub record ReadsTold (j : History) (cpu on_rq changes : ℕ → ℕ) (lock : ℕ → Option ℕ)
    (reads : ℕ → ℕ → TaskReads) : Type 0 where
  pub queued : (s t : ℕ) (rq : Rq) → lock t ≡ Some s → (reads s t).rq ≡ Some rq → rq.on ≡ 1 → IsQueued j t rq.m (cpu t)
  pub off : (s t : ℕ) (rq : Rq) → lock t ≡ Some s → (reads s t).rq ≡ Some rq → rq.on ≡ 0 → rq.m ≢ 0
      → (c : ℕ) × (IsSomewhere j (entry.Sleep t rq.m c) ⊎ IsSomewhere j (entry.Die t rq.m c))
  -- one that was read as off its queue is still so, by that change
  pub still : (s t : ℕ) (rq : Rq) → lock t ≡ Some s → (reads s t).rq ≡ Some rq → rq.on ≡ 0 → (on_rq t ≡ 0)
      × (changes t ≡ rq.m)
  -- .. and where it was then read as busy, it left the queue of its processor
  pub busy : (s t : ℕ) (rq : Rq) → lock t ≡ Some s → (reads s t).rq ≡ Some rq → rq.on ≡ 0 → (reads s t).busy ≡ Some true
      → IsSomewhere j (entry.Sleep t rq.m (cpu t)) ⊎ IsSomewhere j (entry.Die t rq.m (cpu t))
  -- the number of changes last read or stored is the one that was read beside `on_rq`, and none to come
  pub number : (s t : ℕ) (rq : Rq) → (reads s t).rq ≡ Some rq → (reads s t).number ≡ Some rq.m
  pub past : (s t m : ℕ) → (reads s t).number ≡ Some m → m ≤ changes t

pub record PositionsHold (core : Columns) : Type 0 where
  pub matched : MatchedTasks core.state core.on_rq core.changes core.lock core.is_unstored core.saw_off
  pub made_runnable : MadeRunnableTasks core.state core.on_rq core.lock core.current_task core.has_matched
  pub claimed : ClaimedTasks core.state core.on_rq core.on_cpu core.lock core.is_claimed core.saw_clear
  pub resting : RestingTasks core.state core.on_rq core.on_cpu core.lock core.saw_rest core.saw_rest_off
      core.saw_rest_idle
  pub seen : SeenStates core.cpus core.state core.on_rq core.queue_lock core.current_task core.seen_state
  pub idle : IdleTasks core.on_rq core.cpu core.on_cpu core.queue_lock core.current_task core.saw_idle core.has_added
  -- the processor word last read or stored under the lock of t is that of t
  pub cpu : (s t c : ℕ) → core.lock t ≡ Some s → (core.last_reads s t).cpu ≡ Some c → core.cpu t ≡ c
  pub reads : ReadsTold (history core.cpus core.tasks core.seats core.journal) core.cpu core.on_rq core.changes
      core.lock core.last_reads
  -- while t is on its way to a queue, the holder of its lock has stored a word of it
  pub waking_stored : (s t : ℕ) → core.lock t ≡ Some s → core.on_rq t ≡ 0 → core.state t ≡ waking
      → core.has_stored s t ≡ true
  pub moving_stored : (s t : ℕ) → core.lock t ≡ Some s → core.on_rq t ≡ 2 → core.has_stored s t ≡ true
