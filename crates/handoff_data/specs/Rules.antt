-- The eleven rules of journals. Each says something of the entry that stands at an index of a seat's journal.
-- A rule reads existentially: where it names an entry with certain numbers, there is one that fits.
use Rattle.std.specs.Prelude.{◌≡◌, ◌≢◌, ◌+◌, ◌-◌, ◌%◌, ◌<◌, ◌≤◌, ◌⊎◌, ℕ, Bool, true, false, Option, Some, None, IfSome}
use Rattle.handoff_data.specs.declared.entry.Entry.{Entry}
use Rattle.handoff_data.specs.declared.entry.Entry.TheVariants as entry
use Rattle.handoff_data.specs.declared.mask.CpuMask.{CpuMask}
use Rattle.handoff_data.specs.History.{History}
use Rattle.handoff_data.specs.Mask.{HasCpu}
use Rattle.handoff_data.specs.Numbers.{change_of, run_of, identity, Identity}
use Rattle.handoff_data.specs.Positions.{Stands, IsIn, IsBefore, IsSomewhere, IsEarlier}

-- 1. Tasks, processors and masks are in range, and what only a processor itself does stands in its own journal.
abbrev pub InRange : History → ℕ → ℕ → Entry → Type 0
InRange j seat index (entry.New t m c) = (t < j.tasks) × (c < j.cpus)
InRange j seat index (entry.Sleep t m c) = (t < j.tasks) × (c < j.cpus) × (c ≡ seat)
InRange j seat index (entry.Wake t m) = t < j.tasks
InRange j seat index (entry.List t m c e) = (t < j.tasks) × (c < j.cpus)
InRange j seat index (entry.Enq t m c by_list) = (t < j.tasks) × (c < j.cpus) × (by_list ≡ true → c ≡ seat)
InRange j seat index (entry.Out t m c) = (t < j.tasks) × (c < j.cpus)
InRange j seat index (entry.In t m c) = (t < j.tasks) × (c < j.cpus)
InRange j seat index (entry.Die t m c) = (t < j.tasks) × (c < j.cpus) × (c ≡ seat)
InRange j seat index (entry.Pick t n c) = (t < j.tasks) × (c < j.cpus) × (c ≡ seat)
InRange j seat index (entry.Finish t n c) = (t < j.tasks) × (c < j.cpus) × (c ≡ seat)
InRange j seat index (entry.Mask t r mask) = (t < j.tasks) × ((c : ℕ) → HasCpu mask c → c < j.cpus)
InRange j seat index (entry.Stood t r m at) = (t < j.tasks) × IfSome at (λ c. c < j.cpus)
InRange j seat index (entry.Done t r) = t < j.tasks
InRange j seat index (entry.Offline c e) = (c < j.cpus) × (c ≡ seat)
InRange j seat index (entry.Up c e) = (c < j.cpus) × (c ≡ seat)
InRange j seat index (entry.Refused t state) = t < j.tasks

-- 2. No earlier entry is of the same group with the same numbers.
abbrev pub NotRepeated : History → ℕ → ℕ → Entry → Type 0
NotRepeated j seat index entry =
    (g : Identity) → identity entry ≡ Some g → (seat' index' : ℕ) (entry' : Entry) → IsEarlier seat' index' seat index
    → Stands j seat' index' entry' → identity entry' ≢ Some g

-- change m of t put it on the queue of c
abbrev pub IsQueued : History → ℕ → ℕ → ℕ → Type 0
IsQueued j t m c =
    IsSomewhere j (entry.New t m c)
    ⊎ (IsSomewhere j (entry.In t m c) ⊎ ((by_list : Bool) × IsSomewhere j (entry.Enq t m c by_list)))

-- t went to sleep by its change m
abbrev pub IsSleep : History → ℕ → ℕ → Type 0
IsSleep j t m = (c : ℕ) × IsSomewhere j (entry.Sleep t m c)

-- 3. A task's changes begin with New, and each other one follows the change before it.
abbrev pub Chained : History → ℕ → ℕ → Entry → Type 0
Chained j seat index (entry.New t m c) = m ≡ 1
Chained j seat index (entry.Sleep t m c) = (1 < m) × IsQueued j t (m - 1) c
Chained j seat index (entry.Die t m c) = (1 < m) × IsQueued j t (m - 1) c
Chained j seat index (entry.Out t m c) = (1 < m) × IsQueued j t (m - 1) c
Chained j seat index (entry.Enq t m c by_list) = (1 < m) × IsSleep j t (m - 1)
Chained j seat index (entry.In t m c) = (1 < m) × ((c' : ℕ) × IsIn j seat (entry.Out t (m - 1) c'))
Chained j seat index _ = Unit {0}

-- some entry lists t after its change m
abbrev pub IsListed : History → ℕ → ℕ → Type 0
IsListed j t m = (c e : ℕ) × IsSomewhere j (entry.List t m c e)

-- 4. A wake has its sleep, a listing its wake, and a queueing its listing, or its wake where there is no listing.
abbrev pub Caused : History → ℕ → ℕ → Entry → Type 0
Caused j seat index (entry.Wake t m) = IsSleep j t m
Caused j seat index (entry.List t m c e) = IsBefore j seat index (entry.Wake t m)
Caused j seat index (entry.Enq t m c true) = (0 < m) × ((e : ℕ) × IsSomewhere j (entry.List t (m - 1) c e))
Caused j seat index (entry.Enq t m c false) =
    (0 < m) × IsBefore j seat index (entry.Wake t (m - 1)) × (IsListed j t (m - 1) → ⊥)
Caused j seat index _ = Unit {0}

-- 5. In one journal the changes of a task rise, and so do its runs.
pub record RisesInJournal (j : History) (seat index : ℕ) (entry : Entry) : Type 0 where
  pub changes : (t m : ℕ) → change_of entry ≡ Some (t, m) → (before m' : ℕ) (entry' : Entry) → before < index
      → Stands j seat before entry' → change_of entry' ≡ Some (t, m') → m' < m
  pub runs : (t n : ℕ) → run_of entry ≡ Some (t, n) → (before n' : ℕ) (entry' : Entry) → before < index
      → Stands j seat before entry' → run_of entry' ≡ Some (t, n') → n' < n

-- 6. A pick follows the finish before it, and a finish stands behind its pick, in its journal and on its processor.
abbrev pub RunsAlternate : History → ℕ → ℕ → Entry → Type 0
RunsAlternate j seat index (entry.Pick t n c) =
    (n % 2 ≡ 1) × (1 < n → (c' : ℕ) × IsSomewhere j (entry.Finish t (n - 1) c'))
RunsAlternate j seat index (entry.Finish t n c) = (n % 2 ≡ 0) × (0 < n) × IsBefore j seat index (entry.Pick t (n - 1) c)
RunsAlternate j seat index _ = Unit {0}

-- in this journal the last run entry of t before the index is a pick
abbrev pub IsRunning : History → ℕ → ℕ → ℕ → Type 0
IsRunning j seat index t =
    (pick n c : ℕ) × (pick < index) × Stands j seat pick (entry.Pick t n c)
    × ((k n' : ℕ) (entry' : Entry) → pick < k → k < index → Stands j seat k entry' → run_of entry' ≢ Some (t, n'))

-- 7. A task goes to sleep or ends only while it runs.
abbrev pub LeavesWhileRunning : History → ℕ → ℕ → Entry → Type 0
LeavesWhileRunning j seat index (entry.Sleep t m c) = IsRunning j seat index t
LeavesWhileRunning j seat index (entry.Die t m c) = IsRunning j seat index t
LeavesWhileRunning j seat index _ = Unit {0}

-- In the journal of this waker a listing of the task to c stands there, which a queueing by list as change m ends.
pub record IsListing (j : History) (waker index t m c : ℕ) : Type 0 where
  pub listed : ℕ
  pub next : m ≡ listed + 1
  pub epoch : ℕ
  pub stands : Stands j waker index (entry.List t listed c epoch)

-- 8. What one waker listed is queued in the order in which it was listed.
abbrev pub ListedInOrder : History → ℕ → ℕ → Entry → Type 0
ListedInOrder j seat index (entry.Enq t m c true) =
    (waker k : ℕ) → IsListing j waker k t m c
    → (before t' m' c' : ℕ) → before < index → Stands j seat before (entry.Enq t' m' c' true)
    → (k' : ℕ) → IsListing j waker k' t' m' c' → k' ≤ k
ListedInOrder j seat index _ = Unit {0}

-- the entry is an Offline or an Up
abbrev pub IsTurn : Entry → Type 0
IsTurn (entry.Offline c e) = Unit {0}
IsTurn (entry.Up c e) = Unit {0}
IsTurn _ = ⊥

-- in this journal the entry is the last Offline or Up before the index
abbrev pub IsLastTurn : History → ℕ → ℕ → Entry → Type 0
IsLastTurn j seat index turn =
    IsTurn turn × ((last : ℕ) × (last < index) × Stands j seat last turn
    × ((k : ℕ) (entry' : Entry) → last < k → k < index → Stands j seat k entry' → IsTurn entry' → ⊥))

-- in this journal no Offline or Up stands before the index
abbrev pub HasNoTurn : History → ℕ → ℕ → Type 0
HasNoTurn j seat index = (k : ℕ) (entry' : Entry) → k < index → Stands j seat k entry' → IsTurn entry' → ⊥

-- at the index of this journal the processor is offline
abbrev pub IsOffline : History → ℕ → ℕ → Type 0
IsOffline j seat index = (c e : ℕ) × IsLastTurn j seat index (entry.Offline c e)

-- 9. Offline and Up take turns, with their epochs. When a processor goes offline, all that was listed to it up to
-- that epoch was queued before; and while it is offline it picks nothing, and queues nothing to itself.
abbrev pub OutageLeavesNone : History → ℕ → ℕ → Entry → Type 0
OutageLeavesNone j seat index (entry.Offline c e) =
    ((HasNoTurn j seat index × (e ≡ 0)) ⊎ ((c' : ℕ) × IsLastTurn j seat index (entry.Up c' e)))
    × ((t m epoch : ℕ) → epoch ≤ e → IsSomewhere j (entry.List t m c epoch)
    → IsBefore j seat index (entry.Enq t (m + 1) c true))
OutageLeavesNone j seat index (entry.Up c e) =
    (c' e' : ℕ) × IsLastTurn j seat index (entry.Offline c' e') × (e ≡ e' + 1)
OutageLeavesNone j seat index (entry.Pick t n c) = c ≡ seat → IsOffline j seat index → ⊥
OutageLeavesNone j seat index (entry.Enq t m c by_list) = c ≡ seat → IsOffline j seat index → ⊥
OutageLeavesNone j seat index (entry.In t m c) = c ≡ seat → IsOffline j seat index → ⊥
OutageLeavesNone j seat index _ = Unit {0}

-- where change m of t left it: on the queue of c; or off its queue, while it may still be busy on the processor that
-- it left, or be listed
abbrev pub StoodAt : History → ℕ → ℕ → Option ℕ → Type 0
StoodAt j t m None = (c : ℕ) × (IsSomewhere j (entry.Sleep t m c) ⊎ IsSomewhere j (entry.Die t m c))
StoodAt j t m (Some c) =
    IsQueued j t m c ⊎ (IsSomewhere j (entry.Sleep t m c) ⊎ (IsSomewhere j (entry.Die t m c)
    ⊎ (IsSleep j t m × ((e : ℕ) × IsSomewhere j (entry.List t m c e)))))

-- mask r of t has this processor, where there is one; mask 0 has all processors
abbrev pub MaskAllows : History → ℕ → ℕ → Option ℕ → Type 0
MaskAllows j t r at =
    ((r ≡ 0) × IfSome at (λ c. c < j.cpus))
    ⊎ ((0 < r) × ((mask : CpuMask) × IsSomewhere j (entry.Mask t r mask) × IfSome at (λ c. HasCpu mask c)))

-- 10. A task's masks are numbered from 1, and none is empty. A task stood where its change left it, and its mask
-- allows that.
abbrev pub MaskedAndStood : History → ℕ → ℕ → Entry → Type 0
MaskedAndStood j seat index (entry.Mask t r mask) =
    ((r ≡ 1) ⊎ ((0 < r) × ((mask' : CpuMask) × IsSomewhere j (entry.Mask t (r - 1) mask')))) × ((c : ℕ) × HasCpu mask c)
MaskedAndStood j seat index (entry.Stood t r m at) = StoodAt j t m at × MaskAllows j t r at
MaskedAndStood j seat index _ = Unit {0}

-- 11. A request is done after its mask was set, and the task stood under that mask or a later one.
abbrev pub DoneStood : History → ℕ → ℕ → Entry → Type 0
DoneStood j seat index (entry.Done t r) =
    ((mask : CpuMask) × IsBefore j seat index (entry.Mask t r mask))
    × ((r' m : ℕ) × (at : Option ℕ) × (r ≤ r') × IsSomewhere j (entry.Stood t r' m at))
DoneStood j seat index _ = Unit {0}
