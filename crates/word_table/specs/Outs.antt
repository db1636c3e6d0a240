-- Which slots a trace has out.
use Rattle.std.specs.Prelude.{◌≡◌, ℕ, ◌/◌, ◌%◌, ◌==◌, Bool, false, List, ◌∷◌, if◌then◌else◌, is_some}
use Rattle.core_gives.specs.Queues.{is_some_of}
use Rattle.word_rule.specs.Sorts.{OfTask, OfQueue, OfWorks, OfWait, held_of}
use Rattle.word_steps.specs.Folds.{task_held, queue_held, works_held, wait_held, body_held}
use Rattle.word_steps.specs.Records.{Rec}
use Rattle.word_table.specs.Layout.{SLOTS}

-- the record neither takes nor gives a slot
pub record IsQuiet (r : Rec) (trace : List Rec) : Type 0 where
  pub task : task_held (r ∷ trace) ≡ task_held trace
  pub queue : queue_held (r ∷ trace) ≡ queue_held trace
  pub works : works_held (r ∷ trace) ≡ works_held trace
  pub wait : wait_held (r ∷ trace) ≡ wait_held trace
  pub body : body_held (r ∷ trace) ≡ body_held trace

-- one of five, by the column of the slot
abbrev pub by_column : ℕ → Bool → Bool → Bool → Bool → Bool → Bool
by_column k task body queue works wait =
    if k == 0 then task else if k == 1 then body else if k == 2 then queue else if k == 3 then works else if k == 5
    then wait else false

-- the slot of n in the column k is out
abbrev pub is_out : ℕ → ℕ → List Rec → Bool
is_out k n trace =
    by_column k (is_some (held_of OfTask trace n)) (is_some_of (body_held trace) n) (is_some (held_of OfQueue trace n))
    (is_some (held_of OfWorks trace n)) (is_some (held_of OfWait trace n))

-- .. of the slot i
abbrev pub has_out : ℕ → List Rec → Bool
has_out i trace = is_out (i % SLOTS) (i / SLOTS) trace
