-- A run queue, as contracts see it.
use Rattle.std.specs.Prelude.{ℕ, ◌==◌, ◌+◌, ◌≤◌, List, Option, Bool, count_by, if◌then◌else◌, length, is_some}
use mathlib.Core.Bool.{not}

-- the waiting tasks, front first, the task that runs or is about to, and the last one that was switched out
pub record Queue : Type 0 where
  pub waiting : List ℕ
  pub cur : Option ℕ
  pub left : Option ℕ

-- how often a task stands in a list
abbrev pub times_in : List ℕ → ℕ → ℕ
times_in tasks t = count_by (λ x. x == t) tasks

-- no task stands there twice
pub record IsOnce (tasks : List ℕ) : Type 0 where
  pub at_most : (t : ℕ) → times_in tasks t ≤ 1

-- the number of runnable tasks
abbrev pub runnable_count : Queue → ℕ
runnable_count queue = length queue.waiting + (if is_some queue.cur then 1 else 0)

-- every task but t
abbrev pub is_other : ℕ → ℕ → Bool
is_other t x = not (x == t)
