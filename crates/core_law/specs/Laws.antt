-- What the invariant says, in the sentences that an author of a kernel would look for.
use Rattle.std.specs.Prelude.{◌≡◌, ◌≢◌, ◌+◌, ◌-◌, ◌*◌, ◌<◌, ◌≤◌, ◌⊎◌, ℕ, Bool, true, false, List, Some}
use Rattle.core_data.specs.Entries.{has_entry}
use Rattle.core_data.specs.Queue.{Queue}
use Rattle.core_data.specs.Columns.{Columns}
use Rattle.core_data.specs.declared.values.WaitEntry.{WaitEntry}
use Rattle.core_gives.specs.Queues.{times}
use Rattle.core_gives.specs.Waits.{has_task}
use Rattle.core_invariant.specs.Histories.{history}
use Rattle.core_invariant.specs.Sleepers.{IsAwake, shared_entry}
use Rattle.core_journals.specs.Places.{place_of}
use Rattle.core_kinds.specs.Steps.{is_sleep}
use Rattle.handoff_data.specs.History.{History}
use Rattle.handoff_data.specs.Numbers.{run_of}
use Rattle.handoff_data.specs.Positions.{Stands, IsIn, IsBefore, IsSomewhere}
use Rattle.handoff_data.specs.declared.entry.Entry.TheVariants as entry
use Rattle.handoff_data.specs.declared.place.Q.TheVariants as q
use Rattle.journal_laws.specs.Laws.{AreNumbered, IsRun}

-- the journals of the core's seats
abbrev pub journals_of : Columns → History
journals_of core = history core.cpus core.tasks core.seats core.journal

-- The picks and finishes of t have the numbers from 1 to the last, each once. The odd ones are picks, and each even one
-- is a finish, in the journal of the pick before it and behind it.
pub record RunsTakeTurns (j : History) (t last : ℕ) : Type 0 where
  pub numbered : AreNumbered run_of j t last
  pub begins : (k : ℕ) → 2 * k + 1 ≤ last → (c : ℕ) × IsSomewhere j (entry.Pick t (2 * k + 1) c)
  pub ends : (k : ℕ) → 2 * k + 2 ≤ last → IsRun j t (2 * k + 1) (2 * k + 2)

-- No task is current at two seats, and the runs of each take turns.
pub record OneRunAtATime (core : Columns) : Type 0 where
  pub one_seat : (s s' t : ℕ) → core.current_task s ≡ Some t → core.current_task s' ≡ Some t → s ≡ s'
  pub in_turn : (t : ℕ) → RunsTakeTurns (journals_of core) t (core.runs t)

-- A task that is queued on a processor stands once in the queue of that processor, in `waiting` or as `cur`, and in no
-- other queue; a task that isn't stands in none. A queue that is out counts as it was taken, for the tasks that its
-- holder neither put on a queue nor took off one since.
pub record StandsOnce (core : Columns) : Type 0 where
  pub here : (t c : ℕ) (val : Queue) → (place_of core t).q ≡ q.On c → core.queue c ≡ Some val → times val t ≡ 1
  pub nowhere_else : (t c : ℕ) (val : Queue) → (place_of core t).q ≢ q.On c → core.queue c ≡ Some val → times val t ≡ 0
  pub here_out : (s t c : ℕ) (taken : Queue) → core.queue_held s c ≡ Some taken → core.has_added s c t ≡ false
      → core.has_dropped s c t ≡ false
      → (place_of core t).q ≡ q.On c → times taken t ≡ 1
  pub nowhere_else_out : (s t c : ℕ) (taken : Queue) → core.queue_held s c ≡ Some taken → core.has_added s c t ≡ false
      → core.has_dropped s c t ≡ false
      → (place_of core t).q ≢ q.On c → times taken t ≡ 0

-- For each wake there is at most one queueing with the next number, and each queueing has its wake, with the number
-- before. Where it isn't by a list, that wake stands ahead of it in the same journal.
pub record WakesQueueAtMostOnce (j : History) : Type 0 where
  pub one_queueing : (t m seat index seat' index' c c' : ℕ) (by_list by_list' : Bool)
      → Stands j seat index (entry.Enq t m c by_list) → Stands j seat' index' (entry.Enq t m c' by_list')
      → (seat ≡ seat') × (index ≡ index')
  pub woken : (t m c : ℕ) (by_list : Bool) → IsSomewhere j (entry.Enq t m c by_list)
      → (0 < m) × IsSomewhere j (entry.Wake t (m - 1))
  pub woken_ahead : (t m c seat index : ℕ) → Stands j seat index (entry.Enq t m c false)
      → (0 < m) × IsBefore j seat index (entry.Wake t (m - 1))
  pub one_wake : (t m seat index seat' index' : ℕ) → Stands j seat index (entry.Wake t m)
      → Stands j seat' index' (entry.Wake t m)
      → (seat ≡ seat') × (index ≡ index')

-- t has an entry in the wait queue of k that isn't exclusive, at home or as it was taken
abbrev pub Waits : Columns → ℕ → ℕ → Type 0
Waits core k t =
    ((entries : List WaitEntry) × (core.wait k ≡ Some entries) × (has_entry entries (shared_entry t) ≡ true))
    ⊎ ((s : ℕ) × (taken : List WaitEntry) × (core.wait_held s k ≡ Some taken)
    × (has_entry taken (shared_entry t) ≡ true))

-- some seat of the shape owes k a walk: since it last raised k, it hasn't taken the lock of the wait queue, or hasn't
-- passed t since it last took that lock
abbrev pub IsOwedByASeat : Columns → ℕ → ℕ → Type 0
IsOwedByASeat core k t =
    (x : ℕ) × (x < core.seats) × (core.owes_walk x k ≡ true)
    × ((core.has_retaken x k ≡ false) ⊎ (core.has_passed x k t ≡ false))

-- No lost wake: where such a task isn't awake (running, on its way to a queue, or dead, by its state), and what it
-- tested since it last stored a sleep state differs from the condition, a seat owes it a wake.
abbrev pub NoLostWake : Columns → Type 0
NoLostWake core =
    (k t tested : ℕ) → Waits core k t → (IsAwake (core.state t) → ⊥)
    → core.tested (core.cpu t) t k ≡ Some tested → tested ≢ core.cond k → IsOwedByASeat core k t

-- A task that was put to sleep at k, and is in a sleep state, has its entry in the wait queue of k, at home and out.
pub record SleepersWait (core : Columns) : Type 0 where
  pub home : (k t : ℕ) (entries : List WaitEntry) → core.is_asleep (core.cpu t) t k ≡ true
      → is_sleep (core.state t) ≡ true
      → core.wait k ≡ Some entries → has_task entries t ≡ true
  pub out : (s k t : ℕ) (taken : List WaitEntry) → core.is_asleep (core.cpu t) t k ≡ true
      → is_sleep (core.state t) ≡ true
      → core.wait_held s k ≡ Some taken → has_task taken t ≡ true

-- Whose test and whose sleep these are: a task that is off its queue in a sleep state went to sleep on its processor,
-- by its last change, which stands in the journal of that processor's seat.
abbrev pub SleepsOnItsProcessor : Columns → Type 0
SleepsOnItsProcessor core =
    (t : ℕ) → core.on_rq t ≡ 0 → is_sleep (core.state t) ≡ true
    → IsIn (journals_of core) (core.cpu t) (entry.Sleep t (core.changes t) (core.cpu t))

-- A sleeper off its queue whose test isn't the condition's value: of such the law on lost wakes speaks.
pub record HasSleeperToWake (core : Columns) : Type 0 where
  pub condition : ℕ
  pub task : ℕ
  pub tested : ℕ
  pub waits : Waits core condition task
  pub off : core.on_rq task ≡ 0
  pub asleep : is_sleep (core.state task) ≡ true
  pub test : core.tested (core.cpu task) task condition ≡ Some tested
  pub other : tested ≢ core.cond condition
