-- Sleepers: none of those in a wait queue can be missed.
use Rattle.std.specs.Prelude.{◌≡◌, ◌≢◌, ℕ, ◌⊎◌, Bool, true, false, List, Option, Some, None}
use Rattle.core_data.specs.Entries.{has_entry}
use Rattle.core_data.specs.Columns.{Columns}
use Rattle.core_data.specs.declared.values.WaitEntry.{WaitEntry}
use Rattle.core_gives.specs.Waits.{has_task, HasEachOnce}
use Rattle.core_invariant.specs.Shapes.{HoldsOfValues}
use Rattle.core_kinds.specs.Steps.{running, waking, dead, fresh, is_sleep}
use Rattle.handoff_data.specs.declared.state.State.{State}

-- a task in one of these states isn't about to sleep, nor asleep
abbrev pub IsAwake : State → Type 0
IsAwake state = (state ≡ running) ⊎ ((state ≡ waking) ⊎ (state ≡ dead))

-- Some seat has raised condition k and owes it a walk: since it last did so, it hasn't taken the lock of the wait
-- queue, or hasn't passed t since it took that lock.
abbrev pub IsOwed : (ℕ → ℕ → Bool) → (ℕ → ℕ → Bool) → (ℕ → ℕ → ℕ → Bool) → ℕ → ℕ → Type 0
IsOwed owes retaken passed k t = (x : ℕ) × (owes x k ≡ true) × ((retaken x k ≡ false) ⊎ (passed x k t ≡ false))

-- The same, but for what seat s owes from before it took the lock.
abbrev pub IsOwedBeside : (ℕ → ℕ → Bool) → (ℕ → ℕ → Bool) → (ℕ → ℕ → ℕ → Bool) → ℕ → ℕ → ℕ → Type 0
IsOwedBeside owes retaken passed s k t =
    (x : ℕ) × (owes x k ≡ true) × ((retaken x k ≡ false) ⊎ ((x ≢ s) × (passed x k t ≡ false)))

-- the test of t at k, made by the seat of its processor after it last stored a sleep state, is absent or still right
abbrev pub IsTestRight : (ℕ → ℕ) → (ℕ → ℕ) → (ℕ → ℕ → ℕ → Option ℕ) → ℕ → ℕ → Type 0
IsTestRight cpu cond test k t = (test (cpu t) t k ≡ None) ⊎ (test (cpu t) t k ≡ Some (cond k))

-- t can't be missed at condition k
abbrev pub IsSafeSleeper : Columns → ℕ → ℕ → Type 0
IsSafeSleeper core k t =
    IsAwake (core.state t)
    ⊎ (IsTestRight core.cpu core.cond core.tested k t ⊎ IsOwed core.owes_walk core.has_retaken core.has_passed k t)

-- .. whatever seat s owes from before it took the lock
abbrev pub IsSafeBeside : Columns → ℕ → ℕ → ℕ → Type 0
IsSafeBeside core s k t =
    IsAwake (core.state t)
    ⊎ (IsTestRight core.cpu core.cond core.tested k t
    ⊎ IsOwedBeside core.owes_walk core.has_retaken core.has_passed s k t)

-- an entry that isn't exclusive
abbrev pub shared_entry : ℕ → WaitEntry
shared_entry t = record { t = t; exclusive = false }

pub record SleepersHold (core : Columns) : Type 0 where
  -- no task has two entries in one wait queue
  pub once : HoldsOfValues _ HasEachOnce core.wait core.wait_held
  -- each entry that isn't exclusive is safe, also while the wait queue is out
  pub safe_home : (k t : ℕ) (entries : List WaitEntry) → core.wait k ≡ Some entries
      → has_entry entries (shared_entry t) ≡ true → IsSafeSleeper core k t
  pub safe_out : (s k t : ℕ) (taken : List WaitEntry) → core.wait_held s k ≡ Some taken
      → has_entry taken (shared_entry t) ≡ true → IsSafeSleeper core k t
  -- and so is a task that the holder of the lock has passed
  pub safe_passed : (s k t : ℕ) → core.wait_lock k ≡ Some s → core.has_passed s k t ≡ true → IsSafeSleeper core k t
  -- and one that has stored its state under the lock, as the holder's current task
  pub safe_stored : (s k t : ℕ) → core.wait_lock k ≡ Some s → core.current_task s ≡ Some t
      → core.has_own_stored s k t ≡ true → IsSafeBeside core s k t
  -- a task that was put to sleep at k, and is in a sleep state, has its entry there
  pub entry_home : (k t : ℕ) (entries : List WaitEntry) → core.is_asleep (core.cpu t) t k ≡ true
      → is_sleep (core.state t) ≡ true
      → core.wait k ≡ Some entries → has_task entries t ≡ true
  pub entry_out : (s k t : ℕ) (taken : List WaitEntry) → core.is_asleep (core.cpu t) t k ≡ true
      → is_sleep (core.state t) ≡ true
      → core.wait_held s k ≡ Some taken → has_task taken t ≡ true
  -- one that the holder of the lock has passed isn't so
  pub passed_awake : (s k t : ℕ) → core.wait_lock k ≡ Some s → core.has_passed s k t ≡ true
      → core.is_asleep (core.cpu t) t k ≡ true → is_sleep (core.state t) ≡ false
  -- a task that never ran has stored no sleep state, and has no test
  pub fresh_slept : (s t : ℕ) → core.state t ≡ fresh → core.has_slept s t ≡ false
  pub fresh_test : (s t k : ℕ) → core.state t ≡ fresh → core.tested s t k ≡ None
