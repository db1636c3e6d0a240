-- How a shared table begins and ends, by its passes.
use Rattle.std.specs.Prelude.{◌≡◌, ◌<◌, ◌≤◌, ◌⊎◌, ℕ, ◌+◌, ◌*◌, Bool, true, List, [], Some, map, slice_get}
use Rattle.std.specs.List.{range_with_len}
use Rattle.atomic_table.specs.Seated.{TableId}
use Rattle.core_invariant.specs.Histories.{history}
use Rattle.core_invariant.specs.Sleepers.{IsOwed}
use Rattle.core_kinds.specs.Steps.{dead, is_sleep}
use Rattle.handoff_data.specs.History.{History}
use Rattle.handoff_data.specs.Numbers.{change_of}
use Rattle.handoff_data.specs.Positions.{IsIn, IsSomewhere}
use Rattle.handoff_data.specs.declared.entry.Entry.{Entry}
use Rattle.handoff_data.specs.declared.entry.Entry.TheVariants as entry
use Rattle.handoff_data.specs.declared.shape.Shape.{Shape}
use Rattle.handoff_data.specs.declared.state.State.{State}
use Rattle.task_words.specs.Views.{TurnView, PassView}
use Rattle.word_steps.specs.Exclusives.{gave_exclusively}
use Rattle.word_steps.specs.Folds.{journal, tested, is_asleep, owes_walk, has_retaken, has_passed}
use Rattle.word_steps.specs.Records.{Rec}
use Rattle.word_table.specs.End.{IsIdle, traces_of}
use Rattle.word_table.specs.Views.{TokenView}

-- a turn with no entry
abbrev pub empty_turn : ℕ → TurnView
empty_turn tasks = record { entries = []; spare = 4 * tasks + 16 }

-- the pass of the seat s, which did nothing yet, and those of n seats in their order
abbrev pub new_pass : TableId → Shape → List (List ℕ) → ℕ → PassView
new_pass name shape lasting s =
    record {
      of = name;
      shape = shape;
      lasting = lasting;
      seat = s;
      trace = [];
      turn = empty_turn shape.tasks;
      told = [];
    }

abbrev pub first_passes : TableId → Shape → List (List ℕ) → ℕ → List PassView
first_passes name shape lasting n = map (new_pass name shape lasting) (range_with_len 0 n)

-- a pass but for its entries
abbrev pub token_of : PassView → TokenView
token_of pass = record {
  of = pass.of;
  shape = pass.shape;
  lasting = pass.lasting;
  seat = pass.seat;
  trace = pass.trace;
}

-- the pass has given all back: no value of a lock, no body; it has no current task, and no busy word to clear
abbrev pub IsDone : PassView → Type 0
IsDone pass = IsIdle (token_of pass)

-- by the seat's number what its pass did, newest first, and the journals of all seats
abbrev pub traces_in : List PassView → ℕ → List Rec
traces_in passes = traces_of (map token_of passes)

abbrev pub journals_in : Shape → List PassView → History
journals_in shape passes =
    history shape.cpus shape.tasks (shape.cpus + shape.agents) (λ s. journal s (traces_in passes s))

abbrev pub AllDead : Shape → List State → Type 0
AllDead shape states = (t : ℕ) → t < shape.tasks → slice_get states t ≡ Some dead

-- the body of a dead task has ended
abbrev pub DeadHaveEnded : {B : Type 0} → (B → Bool) → List B → List State → Type 0
DeadHaveEnded ended bodies states =
    (t : ℕ) (b : _) → slice_get bodies t ≡ Some b → slice_get states t ≡ Some dead → ended b ≡ true

-- a task with a death in one of the journals is dead
abbrev pub DeathsAreOfDead : History → List State → Type 0
DeathsAreOfDead j states = (t m c : ℕ) → IsSomewhere j (entry.Die t m c) → slice_get states t ≡ Some dead

-- the last change of t is its sleep at the seat s, in whose journal it stands
pub record SleptLast (j : History) (s t : ℕ) : Type 0 where
  pub number : ℕ
  pub c : ℕ
  pub slept : IsIn j s (entry.Sleep t number c)
  pub last : (e : Entry) (m : ℕ) → IsSomewhere j e → change_of e ≡ Some (t, m) → m ≤ number

-- .. as it is of each task in a sleep state
abbrev pub SleepersSlept : History → List State → Type 0
SleepersSlept j states =
    (t : ℕ) (state : State) → slice_get states t ≡ Some state → is_sleep state ≡ true → (s : ℕ) × SleptLast j s t

-- t was put to sleep at the condition k after the value v was tested there, as the trace of its seat s tells
pub record IsSleeper (shape : Shape) (passes : List PassView) (s t k v : ℕ) : Type 0 where
  pub seat : SleptLast (journals_in shape passes) s t
  pub asleep : is_asleep s (traces_in passes s) t k ≡ true
  pub test : tested s (traces_in passes s) t k ≡ Some v

-- a pass owes the condition k: since it last raised it, it hasn't taken the lock of the wait queue, or hasn't passed t
-- since it last took that lock
abbrev pub IsStillOwed : List PassView → ℕ → ℕ → Type 0
IsStillOwed passes =
    IsOwed (λ x. owes_walk (traces_in passes x)) (λ x. has_retaken (traces_in passes x))
    (λ x. has_passed (traces_in passes x))

-- the own entry of t at the condition k is exclusive: with such a one its seat s gave the wait queue, when it last did
-- so with t as its current task
abbrev pub IsExclusive : List PassView → ℕ → ℕ → ℕ → Type 0
IsExclusive passes s t k = gave_exclusively s (traces_in passes s) t k ≡ true

-- No sleeper was missed: where a task in a sleep state was put to sleep at a condition with a value, the condition has
-- that value, unless a pass still owes it. Nothing is said of a task whose own entry there is exclusive.
abbrev pub NoneMissed : Shape → List PassView → List State → List ℕ → Type 0
NoneMissed shape passes states conds =
    (s t k v count : ℕ) (state : State) → slice_get states t ≡ Some state → is_sleep state ≡ true
    → slice_get conds k ≡ Some count → IsSleeper shape passes s t k v → (count ≡ v)
    ⊎ (IsStillOwed passes k t ⊎ IsExclusive passes s t k)
