-- The four sorts of lock: their words, slots and values.
use Rattle.std.specs.Prelude.{ℕ, List, Option, Some, None}
use Rattle.core_data.specs.Columns.{put}
use Rattle.handoff_data.specs.declared.shape.Shape.{Shape}
use Rattle.word_steps.specs.Decode.{Homes}
use Rattle.word_steps.specs.Folds.{task_held, queue_held, works_held, wait_held}
use Rattle.word_steps.specs.Records.{Rec}
use Rattle.word_steps.specs.Words.{LOCK, QUEUE_LOCK, WORKS_LOCK, WAIT_LOCK}
use Rattle.word_steps.specs.declared.val.Val.{Val}
use Rattle.word_steps.specs.declared.val.Val.TheVariants as val

-- the lock of a task, of a processor's queue, of its works, and of a condition's wait queue
pub data Sort : Type 0 where
  OfTask : Sort
  OfQueue : Sort
  OfWorks : Sort
  OfWait : Sort

-- the column of its word
abbrev pub lock_of : Sort → ℕ
lock_of OfTask = LOCK
lock_of OfQueue = QUEUE_LOCK
lock_of OfWorks = WORKS_LOCK
lock_of OfWait = WAIT_LOCK

-- how many there are
abbrev pub count_of : Sort → Shape → ℕ
count_of OfTask shape = shape.tasks
count_of OfQueue shape = shape.cpus
count_of OfWorks shape = shape.cpus
count_of OfWait shape = shape.conds

-- the value is of this sort
abbrev pub IsOf : Sort → Val → Type 0
IsOf OfTask (val.Task v) = Unit {0}
IsOf OfQueue (val.Queue v) = Unit {0}
IsOf OfWorks (val.Works v) = Unit {0}
IsOf OfWait (val.Wait v) = Unit {0}
IsOf sort v = ⊥

abbrev pub some_of : {A : Type 0} → (A → Val) → Option A → Option Val
some_of f None = None
some_of f (Some v) = Some (f v)

-- the value that the seat has out, as it was taken
abbrev pub held_of : Sort → List Rec → ℕ → Option Val
held_of OfTask trace n = some_of val.Task (task_held trace n)
held_of OfQueue trace n = some_of val.Queue (queue_held trace n)
held_of OfWorks trace n = some_of val.Works (works_held trace n)
held_of OfWait trace n = some_of val.Wait (wait_held trace n)

-- the value at home
abbrev pub home_of : Sort → Homes → ℕ → Option Val
home_of OfTask homes n = some_of val.Task (homes.task n)
home_of OfQueue homes n = some_of val.Queue (homes.queue n)
home_of OfWorks homes n = some_of val.Works (homes.works n)
home_of OfWait homes n = some_of val.Wait (homes.wait n)

-- .. after the value of n was taken out
abbrev pub without : Sort → ℕ → Homes → Homes
without OfTask n homes = record homes { task = put homes.task n None }
without OfQueue n homes = record homes { queue = put homes.queue n None }
without OfWorks n homes = record homes { works = put homes.works n None }
without OfWait n homes = record homes { wait = put homes.wait n None }

-- .. and after this one was put home
abbrev pub with_home : ℕ → Val → Homes → Homes
with_home n (val.Task v) homes = record homes { task = put homes.task n (Some v) }
with_home n (val.Queue v) homes = record homes { queue = put homes.queue n (Some v) }
with_home n (val.Works v) homes = record homes { works = put homes.works n (Some v) }
with_home n (val.Wait v) homes = record homes { wait = put homes.wait n (Some v) }
