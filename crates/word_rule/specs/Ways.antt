-- What a seat knows of the number of a task that it has on its way to a queue.
use Rattle.std.specs.Prelude.{◌≡◌, ℕ, ◌/◌, ◌⊎◌, true, List, Some}
use Rattle.word_steps.specs.Folds.{is_claimed, is_moving, number_read}
use Rattle.word_steps.specs.Records.{Rec}
use Rattle.word_steps.specs.Words.{RQ}

-- the seat has claimed the task, or has taken it off a queue to move it, and hasn't queued it since
abbrev pub IsOnWay : List Rec → ℕ → Type 0
IsOnWay trace t = (is_claimed trace t ≡ true) ⊎ (is_moving trace t ≡ true)

-- the number that it read or made is still the number
abbrev pub WaysHold : (ℕ → ℕ → ℕ) → (ℕ → List Rec) → Type 0
WaysHold words traces = (s t m : ℕ) → IsOnWay (traces s) t → number_read (traces s) t ≡ Some m → words t RQ / 4 ≡ m
