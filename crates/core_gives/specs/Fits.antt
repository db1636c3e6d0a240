-- What a queue has, one task at a time.
use Rattle.std.specs.Prelude.{◌≡◌, ℕ, ◌<◌, Bool, true, Some, slice_get}
use Rattle.core_data.specs.Queue.{Queue, times_in}
use Rattle.core_data.specs.Columns.{Columns}
use Rattle.core_gives.specs.Queues.{is_at}

-- t is a task of the core that is queued on processor c
abbrev pub IsHere : Columns → ℕ → ℕ → Type 0
IsHere core c t = (t < core.tasks) × (is_at core.on_rq core.cpu c t ≡ true)

-- each task that waits is queued there
abbrev pub AreHere : Columns → ℕ → Queue → Type 0
AreHere core c queue = (i t : ℕ) → slice_get queue.waiting i ≡ Some t → IsHere core c t

-- the task in `cur` is queued there, and doesn't wait
abbrev pub IsCurHere : Columns → ℕ → Queue → Type 0
IsCurHere core c queue = (t : ℕ) → queue.cur ≡ Some t → IsHere core c t × (times_in queue.waiting t ≡ 0)
