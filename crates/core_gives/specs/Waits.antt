-- Giving a wait queue.
use Rattle.std.specs.Prelude.{◌≡◌, ℕ, ◌<◌, ◌==◌, ◌&&◌, ◌⊎◌, Bool, true, false, List, [], ◌∷◌, Option, Some, None}
use Rattle.std.specs.Prelude.{IsSome, if◌then◌else◌}
use mathlib.Core.Bool.{not}
use Rattle.core_data.specs.Entries.{any_from, has_entry}
use Rattle.core_data.specs.Noted.{noted, given_asleep}
use Rattle.core_data.specs.Columns.{Columns, put, put_at}
use Rattle.core_data.specs.declared.act.Act.TheVariants.{Walked}
use Rattle.core_data.specs.declared.values.WaitEntry.{WaitEntry}

-- whether some entry is of the task
abbrev pub has_task : List WaitEntry → ℕ → Bool
has_task entries t = any_from (λ x. x.t == t) false entries

-- no task has two entries
abbrev pub HasEachOnce : List WaitEntry → Type 0
HasEachOnce [] = Unit {0}
HasEachOnce (x ∷ xs) = (has_task xs x.t ≡ false) × HasEachOnce xs

-- an entry was put in only for the current task, which has stored its state under this lock
abbrev pub IsPutIn : Columns → ℕ → ℕ → WaitEntry → Type 0
IsPutIn core s k x = (core.current_task s ≡ Some x.t) × (core.has_own_stored s k x.t ≡ true)

-- an entry was taken out only for the current task, or for one that the seat has passed under this lock
abbrev pub IsTakenOut : Columns → ℕ → ℕ → WaitEntry → Type 0
IsTakenOut core s k x = (core.current_task s ≡ Some x.t) ⊎ (core.has_passed s k x.t ≡ true)

pub record MayGiveWait (core : Columns) (s k : ℕ) (given : List WaitEntry) : Type 0 where
  pub seat : s < core.seats
  pub condition : k < core.conds
  pub locked : core.wait_lock k ≡ Some s
  pub out : IsSome (core.wait_held s k)
  pub once : HasEachOnce given
  pub put_in : (taken : List WaitEntry) (x : WaitEntry) → core.wait_held s k ≡ Some taken → has_entry given x ≡ true
      → has_entry taken x ≡ false → IsPutIn core s k x
  pub taken_out : (taken : List WaitEntry) (x : WaitEntry) → core.wait_held s k ≡ Some taken → has_entry taken x ≡ true
      → has_entry given x ≡ false → IsTakenOut core s k x
  pub tasks : (x : WaitEntry) → has_entry given x ≡ true → x.t < core.tasks

-- the current task, where it has an entry and has stored a sleep state under this lock
abbrev pub sleeper_of : Option ℕ → (ℕ → Bool) → List WaitEntry → Option ℕ
sleeper_of None slept given = None
sleeper_of (Some t) slept given = if has_task given t && slept t then Some t else None

-- whether the seat has passed each entry that it took
abbrev pub is_walk : (ℕ → Bool) → List WaitEntry → Bool
is_walk passed [] = true
is_walk passed (x ∷ xs) = passed x.t && is_walk passed xs

abbrev pub walked_if : Bool → Columns → ℕ → ℕ → Columns
walked_if true core s k = noted core s (Walked k)
walked_if false core s k = core

-- the give, where this was taken
abbrev pub give_taken : Columns → ℕ → ℕ → List WaitEntry → List WaitEntry → Columns
give_taken core s k given taken =
    walked_if (core.owes_walk s k && (core.has_retaken s k && is_walk (core.has_passed s k) taken)) (record core {
      wait_lock = put core.wait_lock k None;
      wait = put core.wait k (Some given);
      wait_held = put_at core.wait_held s k None;
      is_asleep =
          put core.is_asleep s
          (given_asleep k taken given (sleeper_of (core.current_task s) (core.has_slept_in s k) given)
          (core.is_asleep s));
    }) s k

abbrev pub give_by : Columns → ℕ → ℕ → List WaitEntry → Option (List WaitEntry) → Columns
give_by core s k given None = core
give_by core s k given (Some taken) = give_taken core s k given taken

abbrev pub give_wait : Columns → ℕ → ℕ → List WaitEntry → Columns
give_wait core s k given = give_by core s k given (core.wait_held s k)
