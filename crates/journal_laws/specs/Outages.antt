-- What journals tell of outages: a processor that goes offline leaves nothing on its remote list, and rests then.
use Rattle.std.specs.Prelude.{◌≡◌, ◌+◌, ◌<◌, ◌≤◌, ℕ, true}
use Rattle.handoff_data.specs.declared.entry.Entry.{Entry}
use Rattle.handoff_data.specs.declared.entry.Entry.TheVariants as entry
use Rattle.handoff_data.specs.History.{History}
use Rattle.handoff_data.specs.Positions.{Stands}

-- the entry picks a task on c, or puts one on its queue but as a new one
abbrev pub UsesProcessor : Entry → ℕ → Type 0
UsesProcessor (entry.Pick t n c') c = c' ≡ c
UsesProcessor (entry.Enq t m c' by_list) c = c' ≡ c
UsesProcessor (entry.In t m c') c = c' ≡ c
UsesProcessor _ c = ⊥

-- in the journal of c no Up stands between the two indexes
abbrev pub StaysOffline : History → ℕ → ℕ → ℕ → Type 0
StaysOffline j c from to = (k c' e : ℕ) → from < k → k < to → Stands j c k (entry.Up c' e) → ⊥

-- At the index of its journal c goes offline, in epoch e.
pub record OutageIsEmpty (j : History) (seat index c e : ℕ) : Type 0 where
  -- that journal is its own
  pub own : seat ≡ c
  -- whatever any waker listed to it up to this epoch was queued before
  pub none_left : (waker k t m epoch : ℕ) → Stands j waker k (entry.List t m c epoch) → epoch ≤ e
      → (before : ℕ) × (before < index) × Stands j c before (entry.Enq t (m + 1) c true)
  -- and what it queues from its list behind that was listed in a later epoch
  pub later_alone : (after waker k t m epoch : ℕ) → index < after → Stands j c after (entry.Enq t (m + 1) c true)
      → Stands j waker k (entry.List t m c epoch) → e < epoch
  -- up to its next Up it picks nothing and queues nothing to itself
  pub idle : (after : ℕ) (entry' : Entry) → index < after → StaysOffline j c index after
      → Stands j c after entry' → UsesProcessor entry' c → ⊥

-- each outage is so
abbrev pub OutagesAreEmpty : History → Type 0
OutagesAreEmpty j = (seat index c e : ℕ) → Stands j seat index (entry.Offline c e) → OutageIsEmpty j seat index c e
