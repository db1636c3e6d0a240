-- When a seat may take the body of its current task out, and put it home.
use Rattle.std.specs.Prelude.{◌≡◌, ℕ, Bool, List, IfSome, IsSome, unwrap_or, true}
use Rattle.word_rule.specs.May.{MayTakeBody}
use Rattle.word_steps.specs.Folds.{current_task, body_held, ended_known}
use Rattle.word_steps.specs.Records.{Rec}

-- there is a current task, and its body is home
abbrev pub IsBodyHome : ℕ → List Rec → Type 0
IsBodyHome s trace = (t : ℕ) × MayTakeBody s trace t

-- the body of the current task is out, which may come home as one that has ended or not; one that had ended has still
pub record IsBodyOut (s : ℕ) (trace : List Rec) (ended : Bool) : Type 0 where
  pub runs : IsSome (current_task s trace)
  pub out : body_held trace ≡ current_task s trace
  pub stays : IfSome (ended_known trace (unwrap_or (current_task s trace) 0)) (λ was. was ≡ true → ended ≡ true)
