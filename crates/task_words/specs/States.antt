-- States that a seat may store, and masks that it may hold them against.
use Rattle.std.specs.Prelude.{◌≡◌, ℕ, ◌⊎◌, true, List, Some, IsSome, unwrap_or, if◌then◌else◌}
use Rattle.core_kinds.specs.Steps.{is_sleep, dead, running}
use Rattle.core_kinds.specs.Waking.{is_refused}
use Rattle.handoff_data.specs.declared.entry.Entry.TheVariants as entry
use Rattle.handoff_data.specs.declared.state.State.{State}
use Rattle.task_words.specs.Views.{TurnView, logged}
use Rattle.word_steps.specs.Folds.{current_task, stays_queued, task_held, ended_known}
use Rattle.word_steps.specs.Records.{Rec}

-- there is a current task, which the seat hasn't taken off its queue, and this may be its state; its death only under
-- its lock, once its body has ended
pub record IsOwnStore (s : ℕ) (trace : List Rec) (state : State) : Type 0 where
  pub runs : IsSome (current_task s trace)
  pub stays : stays_queued trace ≡ true
  pub allowed :
      (state ≡ running)
      ⊎ ((is_sleep state ≡ true) ⊎ ((state ≡ dead) × IsSome (task_held trace (unwrap_or (current_task s trace) 0))
      × (ended_known trace (unwrap_or (current_task s trace) 0) ≡ Some true)))

-- the masks with no bits but those of TASK_NORMAL and TASK_WAKEKILL
abbrev pub IsWakeMask : State → Type 0
IsWakeMask mask =
    (mask.0 ≡ 0)
    ⊎ ((mask.0 ≡ 1)
    ⊎ ((mask.0 ≡ 2)
    ⊎ ((mask.0 ≡ 3) ⊎ ((mask.0 ≡ 0x100) ⊎ ((mask.0 ≡ 0x101) ⊎ ((mask.0 ≡ 0x102) ⊎ (mask.0 ≡ 0x103)))))))

-- the turn after a state was read: one that doesn't match has its entry
abbrev pub tested : ℕ → State → State → TurnView → TurnView
tested t mask state turn = if is_refused state (Some mask) then logged (entry.Refused t state) turn else turn
