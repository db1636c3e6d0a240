-- Each lock's value is home, or out with the seat that the lock's word names.
use Rattle.std.specs.Prelude.{◌≡◌, ℕ, ◌<◌, Option, Some, None, IsSome}
use Rattle.core_data.specs.Columns.{Columns}

-- the locks of one kind, numbered below `count`
pub record IsGuarded (A : Type 0) (count seats : ℕ) (lock : ℕ → Option ℕ) (home : ℕ → Option A)
    (out : ℕ → ℕ → Option A) : Type 0 where
  pub free_home : (k : ℕ) → k < count → lock k ≡ None → IsSome (home k)
  pub held_seat : (k s : ℕ) → lock k ≡ Some s → s < seats
  pub held_away : (k s : ℕ) → lock k ≡ Some s → home k ≡ None
  pub held_out : (k s : ℕ) → lock k ≡ Some s → IsSome (out s k)
  pub out_held : (s k : ℕ) → IsSome (out s k) → lock k ≡ Some s

pub record LocksHold (core : Columns) : Type 0 where
  pub tasks : IsGuarded _ core.tasks core.seats core.lock core.val core.task_held
  pub queues : IsGuarded _ core.cpus core.seats core.queue_lock core.queue core.queue_held
  pub lists : IsGuarded _ core.cpus core.seats core.list_lock core.list core.list_held
  pub works : IsGuarded _ core.cpus core.seats core.works_lock core.works core.works_held
  pub waits : IsGuarded _ core.conds core.seats core.wait_lock core.wait core.wait_held
