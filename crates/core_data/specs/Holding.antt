-- What a seat has out.
use Rattle.std.specs.Prelude.{ℕ, ◌==◌, Bool, List, Option}
use mathlib.Core.Bool.{not}
use Rattle.core_data.specs.declared.held.HeldTask.{HeldTask}
use Rattle.core_data.specs.declared.held.HeldQueue.{HeldQueue}
use Rattle.core_data.specs.declared.held.HeldList.{HeldList}
use Rattle.core_data.specs.declared.held.HeldWorks.{HeldWorks}
use Rattle.core_data.specs.declared.held.HeldWait.{HeldWait}

-- the values of the locks that it holds, as they were taken, and the task whose body it has
pub record Holding : Type 0 where
  pub tasks : List HeldTask
  pub queues : List HeldQueue
  pub lists : List HeldList
  pub works : List HeldWorks
  pub waits : List HeldWait
  pub body : Option ℕ

abbrev pub is_other_task : ℕ → HeldTask → Bool
is_other_task t held = not (held.t == t)

abbrev pub is_other_queue : ℕ → HeldQueue → Bool
is_other_queue c held = not (held.c == c)

abbrev pub is_other_works : ℕ → HeldWorks → Bool
is_other_works c held = not (held.c == c)

abbrev pub is_other_wait : ℕ → HeldWait → Bool
is_other_wait k held = not (held.k == k)
