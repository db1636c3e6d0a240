-- Where a task is, by the words of the core, and how a step may change it.
use Rattle.std.specs.Prelude.{◌≡◌, ◌≢◌, ℕ, ◌==◌, ◌⊎◌, ◌++◌, ◌∷◌, [], Bool, true, false, Option, Some, None}
use Rattle.std.specs.Prelude.{if◌then◌else◌}
use Rattle.core_data.specs.Columns.{Columns}
use Rattle.core_kinds.specs.Steps.{dead, waking}
use Rattle.handoff_data.specs.Moves.{task_of, Moves}
use Rattle.handoff_data.specs.declared.entry.Entry.{Entry}
use Rattle.handoff_data.specs.declared.entry.Entry.TheVariants as entry
use Rattle.handoff_data.specs.declared.place.Place.{Place}
use Rattle.handoff_data.specs.declared.place.Q.{Q}
use Rattle.handoff_data.specs.declared.place.Q.TheVariants as q
use Rattle.handoff_data.specs.declared.state.State.{State}

-- on its way to a queue by the seat that has the task's lock
abbrev pub held_by : (ℕ → Q) → Option ℕ → Q
held_by way None = q.Off
held_by way (Some s) = way s

-- the first line that fits
abbrev pub q_of : ℕ → ℕ → State → ℕ → Option ℕ → Q
q_of changes on_rq state cpu lock =
    if changes == 0 then q.New
    else if on_rq == 1 then q.On cpu
    else if on_rq == 2 then held_by q.Moving lock
    else if state.0 == dead.0 then q.Dead
    else if state.0 == waking.0 then held_by q.Waking lock
    else q.Off

-- a busy task is so on its processor
abbrev pub busy_at : Bool → ℕ → Option ℕ
busy_at true cpu = Some cpu
busy_at false cpu = None

abbrev pub place : ℕ → ℕ → State → ℕ → Option ℕ → Bool → Place
place changes on_rq state cpu lock on_cpu = record { q = q_of changes on_rq state cpu lock; b = busy_at on_cpu cpu }

abbrev pub place_of : Columns → ℕ → Place
place_of core t = place (core.changes t) (core.on_rq t) (core.state t) (core.cpu t) (core.lock t) (core.on_cpu t)

-- an entry that moves no task
abbrev pub MovesNone : Entry → Type 0
MovesNone (entry.Mask t r mask) = Unit {0}
MovesNone (entry.Stood t r m at) = Unit {0}
MovesNone (entry.Done t r) = Unit {0}
MovesNone (entry.Offline c e) = Unit {0}
MovesNone (entry.Up c e) = Unit {0}
MovesNone (entry.Refused t state) = Unit {0}
MovesNone _ = ⊥

-- each task is where it was, and the journals tell of no move
pub record AllStay (s : ℕ) (core next : Columns) : Type 0 where
  pub places : (t : ℕ) → place_of next t ≡ place_of core t
  pub own_journal : (next.journal s ≡ core.journal s)
      ⊎ ((e : Entry) × MovesNone e × (next.journal s ≡ core.journal s ++ e ∷ []))
  pub other_journals : (k : ℕ) → k ≢ s → next.journal k ≡ core.journal k

-- one move of one task, with its entry in the journal of the seat
pub record IsMoved (s : ℕ) (core next : Columns) : Type 0 where
  pub task : ℕ
  pub entry : Entry
  pub of_task : task_of entry ≡ Some task
  pub moves : Moves s (place_of core task) entry (place_of next task)
  pub others : (u : ℕ) → u ≢ task → place_of next u ≡ place_of core u
  pub own_journal : next.journal s ≡ core.journal s ++ entry ∷ []
  pub other_journals : (k : ℕ) → k ≢ s → next.journal k ≡ core.journal k

-- a step of seat s is one move of one task, or none
abbrev pub OneMoveOrNone : ℕ → Columns → Columns → Type 0
OneMoveOrNone s core next = AllStay s core next ⊎ IsMoved s core next
