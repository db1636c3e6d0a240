-- A task that is queued on a processor stands once in the queue of that processor, or is its next; no other stands
-- there.
use Rattle.std.specs.Prelude.{◌≡◌, ◌≤◌, ℕ, true, false, Option, Some, Bool, if◌then◌else◌}
use Rattle.core_data.specs.Queue.{Queue}
use Rattle.core_data.specs.Columns.{Columns}
use Rattle.core_gives.specs.Queues.{IsQueueOf, times, is_at}
use Rattle.core_invariant.specs.Histories.{history}
use Rattle.handoff_data.specs.History.{History}
use Rattle.handoff_data.specs.Numbers.{change_of}
use Rattle.handoff_data.specs.Positions.{Stands}
use Rattle.handoff_data.specs.declared.entry.Entry.{Entry}
use Rattle.handoff_data.specs.declared.entry.Entry.TheVariants as entry

-- a queue that is home
abbrev pub HomeQueues : (ℕ → ℕ) → (ℕ → ℕ) → (ℕ → Option Queue) → Type 0
HomeQueues on_rq cpu queue = (c : ℕ) (val : Queue) → queue c ≡ Some val → IsQueueOf on_rq cpu c val

-- While its lock is held: a task that the holder neither put on a queue nor took off one since it took the lock stands
-- as in the value taken.
abbrev pub LeftQueues : (ℕ → ℕ) → (ℕ → ℕ) → (ℕ → ℕ → Option Queue) → (ℕ → ℕ → ℕ → Bool) → (ℕ → ℕ → ℕ → Bool) → Type 0
LeftQueues on_rq cpu queue_out added dropped =
    (s c : ℕ) (taken : Queue) (t : ℕ) → queue_out s c ≡ Some taken → added s c t ≡ false → dropped s c t ≡ false
    → times taken t ≡ (if is_at on_rq cpu c t then 1 else 0)

-- one that the holder took off and didn't put back isn't queued there
abbrev pub DroppedTasks : (ℕ → ℕ) → (ℕ → ℕ) → (ℕ → Option ℕ) → (ℕ → ℕ → Bool) → (ℕ → ℕ → ℕ → Bool) → Type 0
DroppedTasks on_rq cpu queue_lock requeued dropped =
    (s c t : ℕ) → queue_lock c ≡ Some s → dropped s c t ≡ true → requeued s t ≡ false → is_at on_rq cpu c t ≡ false

-- the entry puts t on the queue of c
abbrev pub PutsOn : Entry → ℕ → ℕ → ℕ → Type 0
PutsOn (entry.New u n d) t m c = (u ≡ t) × (n ≡ m) × (d ≡ c)
PutsOn (entry.Enq u n d by_list) t m c = (u ≡ t) × (n ≡ m) × (d ≡ c)
PutsOn (entry.In u n d) t m c = (u ≡ t) × (n ≡ m) × (d ≡ c)
PutsOn _ t m c = ⊥

-- the last change of t in this seat's journal put it on the queue of c
pub record WasPut (j : History) (s t c : ℕ) : Type 0 where
  pub index : ℕ
  pub number : ℕ
  pub entry : Entry
  pub stands : Stands j s index entry
  pub puts : PutsOn entry t number c
  pub last : (i m : ℕ) (e : Entry) → Stands j s i e → change_of e ≡ Some (t, m) → m ≤ number

-- one that the holder put on this queue under the lock, and didn't take off again, is queued there
abbrev pub AddedTasks : (ℕ → ℕ) → (ℕ → ℕ) → (ℕ → Option ℕ) → (ℕ → ℕ → Bool) → (ℕ → ℕ → ℕ → Bool) → History → Type 0
AddedTasks on_rq cpu queue_lock requeued added j =
    (s c t : ℕ) → queue_lock c ≡ Some s → added s c t ≡ true → requeued s t ≡ true → WasPut j s t c
    → is_at on_rq cpu c t ≡ true

pub record QueuesHold (core : Columns) : Type 0 where
  pub at_home : HomeQueues core.on_rq core.cpu core.queue
  pub left : LeftQueues core.on_rq core.cpu core.queue_held core.has_added core.has_dropped
  pub dropped : DroppedTasks core.on_rq core.cpu core.queue_lock core.is_requeued core.has_dropped
  pub added : AddedTasks core.on_rq core.cpu core.queue_lock core.is_requeued core.has_added
      (history core.cpus core.tasks core.seats core.journal)
