-- What the conditions and effects of steps are made of.
use Rattle.std.specs.Prelude.{◌≡◌, ℕ, ◌<◌, ◌^◌, ◌==◌, ◌||◌, ◌⊎◌, Bool, true, false, Some, None, bit_and}
use mathlib.Core.Bool.{not}
use Rattle.core_data.specs.Noted.{noted}
use Rattle.core_data.specs.Columns.{Columns, put_at}
use Rattle.core_data.specs.declared.act.Act.TheVariants.{Renewed, StoredWord, Passed}
use Rattle.core_data.specs.declared.pos.TaskReads.{TaskReads}
use Rattle.handoff_data.specs.declared.state.State.{State}

-- the states, as in Linux 6.6 `include/linux/sched.h`
abbrev pub running : State
running = record { 0 = 0 }

abbrev pub dead : State
dead = record { 0 = 0x80 }

abbrev pub waking : State
waking = record { 0 = 0x200 }

abbrev pub fresh : State
fresh = record { 0 = 0x800 }

-- TASK_NORMAL, the mask of a usual wake-up
abbrev pub normal : State
normal = record { 0 = 3 }

-- TASK_INTERRUPTIBLE or TASK_UNINTERRUPTIBLE
abbrev pub is_sleep : State → Bool
is_sleep state = (state.0 == 1) || (state.0 == 2)

-- TASK_RUNNING or TASK_NEW
abbrev pub IsRunnable : State → Type 0
IsRunnable state = (state.0 ≡ 0) ⊎ (state.0 ≡ 0x800)

-- whether a state has a bit of the mask
abbrev pub is_match : State → State → Bool
is_match state mask = not (bit_and state.0 mask.0 == 0)

-- a number of changes may still rise
abbrev pub IsBelowEnd : ℕ → Type 0
IsBelowEnd n = n < 2 ^ 60

-- what was read of a task holds no more once a word of it is stored, but for its number and its processor
abbrev pub kept_reads : ℕ → TaskReads → TaskReads
kept_reads t reads = record { t = t; state = None; rq = None; busy = None; number = reads.number; cpu = reads.cpu }

-- a seat has stored a word of task t
abbrev pub stored_word : Columns → ℕ → ℕ → Columns
stored_word core s t =
    noted (noted (record core { last_reads = put_at core.last_reads s t (kept_reads t (core.last_reads s t)) }) s
    (Renewed t)) s (StoredWord t)

-- it has changed the number of t's changes to m
abbrev pub numbered_reads : ℕ → ℕ → TaskReads → TaskReads
numbered_reads t m reads = record { t = t; state = None; rq = None; busy = None; number = Some m; cpu = reads.cpu }

-- a seat passes t where it reads a state that TASK_NORMAL doesn't match
abbrev pub passed_if : Bool → Columns → ℕ → ℕ → Columns
passed_if true core s t = noted core s (Passed t)
passed_if false core s t = core
