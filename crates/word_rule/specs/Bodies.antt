-- What a seat knows of the body that it has out.
use Rattle.std.specs.Prelude.{◌≡◌, ℕ, List, Some, IsSome}
use Rattle.word_steps.specs.Folds.{body_held, ended_known}
use Rattle.word_steps.specs.Records.{Rec}

-- whether it has ended, as it was taken out
abbrev pub BodiesKnown : (ℕ → List Rec) → Type 0
BodiesKnown traces = (s t : ℕ) → body_held (traces s) ≡ Some t → IsSome (ended_known (traces s) t)
