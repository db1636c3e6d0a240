-- Where words and slots lie. Word n of column c is word 64 n + c, and slot n of column k is slot 6 n + k, for n below
-- `rows_of`; the last slot is the room for the bodies.
use Rattle.std.specs.Prelude.{ℕ, ◌+◌, ◌*◌, max}
use Rattle.handoff_data.specs.declared.shape.Shape.{Shape}
use Rattle.word_rule.specs.Sorts.{Sort, OfTask, OfQueue, OfWorks, OfWait}
use Rattle.word_steps.specs.Words.{STRIDE}

-- as many as there are tasks, conditions or seats
abbrev pub rows_of : Shape → ℕ
rows_of shape = max (max shape.tasks shape.conds) (shape.cpus + shape.agents)

-- the columns of slots: of a task's value, its body, a queue, works, a list, which stays empty, and a wait queue
abbrev pub SLOTS : ℕ
SLOTS = 6

abbrev pub BODY_SLOT : ℕ
BODY_SLOT = 1

abbrev pub slot_of : Sort → ℕ
slot_of OfTask = 0
slot_of OfQueue = 2
slot_of OfWorks = 3
slot_of OfWait = 5

abbrev pub word_at : ℕ → ℕ → ℕ
word_at n c = STRIDE * n + c

abbrev pub slot_at : ℕ → ℕ → ℕ
slot_at n k = SLOTS * n + k
