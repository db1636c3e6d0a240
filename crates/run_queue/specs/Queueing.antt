-- What a seat does to place a task and to queue it.
use Rattle.std.specs.Prelude.{ℕ, ◌==◌, ◌++◌, ◌∷◌, [], List, if◌then◌else◌}
use Rattle.task_words.specs.Queue.{Queue}
use Rattle.task_words.specs.Records.{Rec, LoadedCpu, StoredCpu}

-- the processor of t was read as `from`, and c stored where that is another
abbrev pub placed : ℕ → ℕ → ℕ → List Rec → List Rec
placed t from c trace = if from == c then LoadedCpu t from ∷ trace else StoredCpu t c ∷ LoadedCpu t from ∷ trace

-- the queue with t at its back
abbrev pub pushed : ℕ → Queue → Queue
pushed t queue = record queue { waiting = queue.waiting ++ t ∷ [] }
