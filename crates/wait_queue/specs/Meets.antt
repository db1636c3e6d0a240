-- A walk meets the entries of a wait queue, and wakes their tasks.
use Rattle.std.specs.Prelude.{◌≡◌, ◌≢◌, ℕ, ◌+◌, ◌++◌, ◌∷◌, [], ◌&&◌, Bool, true, false, List, Some, map, if◌then◌else◌}
use Rattle.handoff_data.specs.declared.shape.Shape.{Shape}
use Rattle.task_words.specs.Folds.{current_task, has_passed}
use Rattle.task_words.specs.Records.{Rec}
use Rattle.task_words.specs.Steps.{normal}
use Rattle.task_words.specs.Views.{PassView}
use Rattle.task_words.specs.WaitEntry.{WaitEntry}
use Rattle.ttwu_core.specs.Own.{DidWakeOwn}
use Rattle.ttwu_core.specs.Wakes.{DidWake}
use Rattle.ttwu_core.specs.declared.answers.Wake.{Wake}
use Rattle.ttwu_core.specs.declared.answers.Wake.TheVariants as wake

-- an entry that a walk met, and what the wake-up of its task answered
pub record Meeting : Type 0 where
  pub entry : WaitEntry
  pub answer : Wake

-- the task was woken
abbrev pub is_true : Wake → Bool
is_true (wake.Woke how) = true
is_true (wake.NoMatch seen) = false

-- .. and its entry is exclusive
abbrev pub is_true_exclusive : Meeting → Bool
is_true_exclusive x = is_true x.answer && x.entry.exclusive

-- t was woken with TASK_NORMAL: as the own current task, or as another
pub record DidWakeTask (t : ℕ) (shape : Shape) (old new : PassView) (answer : Wake) : Type 0 where
  pub own : current_task old.seat old.trace ≡ Some t → DidWakeOwn normal old new answer
  pub other : current_task old.seat old.trace ≢ Some t → DidWake t normal shape old new answer

-- the entries were met one after the other, and nothing else was done
abbrev pub HasMet : Shape → List Meeting → PassView → PassView → Type 0
HasMet shape [] old new = new ≡ old
HasMet shape (x ∷ xs) old new =
    (after : PassView) × (DidWakeTask x.entry.t shape old after x.answer × HasMet shape xs after new)

abbrev pub entries_of : List Meeting → List WaitEntry
entries_of = map (λ x. x.entry)

-- the entries whose tasks weren't woken, in their order
abbrev pub staying : List Meeting → List WaitEntry
staying [] = []
staying (x ∷ xs) = if is_true x.answer then staying xs else x.entry ∷ staying xs

-- how many tasks were woken, and how many of them have an exclusive entry
abbrev pub count_true : List Meeting → ℕ
count_true [] = 0
count_true (x ∷ xs) = if is_true x.answer then count_true xs + 1 else count_true xs

abbrev pub count_exclusive : List Meeting → ℕ
count_exclusive [] = 0
count_exclusive (x ∷ xs) = if is_true_exclusive x then count_exclusive xs + 1 else count_exclusive xs

-- whatever the wait queue, the seat has passed each of these since it took its lock
abbrev pub HasPassedAll : List Meeting → List Rec → Type 0
HasPassedAll [] trace = Unit {0}
HasPassedAll (x ∷ xs) trace = ((k : ℕ) → has_passed trace k x.entry.t ≡ true) × HasPassedAll xs trace

-- one entry was met, at the head: it went to the tail, unless its task was woken
pub record HasMetOne (shape : Shape) (given taken : List WaitEntry) (old new : PassView)
    (true_wakes exclusive_wakes : ℕ) : Type 0 where
  pub entry : WaitEntry
  pub answer : Wake
  pub left : List WaitEntry
  pub head : taken ≡ entry ∷ left
  pub tail : given ≡ (if is_true answer then left else left ++ entry ∷ [])
  pub did : DidWakeTask entry.t shape old new answer
  pub passed : (k : ℕ) → has_passed new.trace k entry.t ≡ true
  pub woken : true_wakes ≡ (if is_true answer then 1 else 0)
  pub exclusive : exclusive_wakes ≡ (if is_true answer && entry.exclusive then 1 else 0)
