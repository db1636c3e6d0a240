-- What a seat knows of the state of its own current task, while that stays queued.
use Rattle.std.specs.Prelude.{◌≡◌, ◌≢◌, ℕ, ◌<◌, ◌^◌, ◌⊎◌, true, List, [], ◌∷◌, Option, Some, None}
use Rattle.core_data.specs.Columns.{put}
use Rattle.core_kinds.specs.Steps.{running, dead, is_sleep, IsRunnable}
use Rattle.handoff_data.specs.declared.state.State.{State}
use Rattle.word_steps.specs.Folds.{current_task, stays_queued}
use Rattle.word_steps.specs.Records.{Rec, SetBusy, StateSet}
use Rattle.word_steps.specs.Words.{STATE}

-- the state that the seat has stored last of each task since it picked it
abbrev pub last_own_after : Rec → (ℕ → Option State) → ℕ → Option State
last_own_after (SetBusy t c n) h = put h t None
last_own_after (StateSet t state) h = put h t (Some state)
last_own_after r h = h

abbrev pub last_own : List Rec → ℕ → Option State
last_own [] = λ t. None
last_own (r ∷ rs) = last_own_after r (last_own rs)

-- TASK_RUNNING or TASK_NEW, a sleep state, or TASK_DEAD
abbrev pub IsOfCurrent : State → Type 0
IsOfCurrent state = IsRunnable state ⊎ ((is_sleep state ≡ true) ⊎ (state ≡ dead))

-- the state that was stored, or TASK_RUNNING by a wake; but nobody wakes the dead
abbrev pub IsStill : State → State → Type 0
IsStill stored state = (state ≡ stored) ⊎ ((state ≡ running) × (stored ≢ dead))

-- a current task that its seat hasn't taken off its queue has the state that the seat stored last, or was woken
abbrev pub OwnHolds : (ℕ → ℕ → ℕ) → (ℕ → List Rec) → Type 0
OwnHolds words traces =
    (s t : ℕ) (stored : State) → current_task s (traces s) ≡ Some t → stays_queued (traces s) ≡ true
    → last_own (traces s) t ≡ Some stored
    → IsStill stored (record { 0 = words t STATE })

-- What is known of the state x of t that the seat s reads, by its trace before: it has 16 bits; and of its own current
-- task, which it hasn't taken off its queue, which states it may be, and which where the seat has stored one.
pub record StateTold (s : ℕ) (trace : List Rec) (t x : ℕ) : Type 0 where
  pub narrow : x < 2 ^ 16
  pub own : current_task s trace ≡ Some t → stays_queued trace ≡ true → IsOfCurrent (record { 0 = x })
  pub still : (stored : State) → current_task s trace ≡ Some t → stays_queued trace ≡ true
      → last_own trace t ≡ Some stored
      → IsStill stored (record { 0 = x })
  -- .. so a task that it left for dead is
  pub dead : current_task s trace ≡ Some t → stays_queued trace ≡ true → last_own trace t ≡ Some dead
      → ◌≡◌ {A = State} (record { 0 = x }) dead
