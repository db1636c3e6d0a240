-- What no step of a wake-up, a start or a walk of a wait queue touches, of all that a seat's trace tells.
use Rattle.std.specs.Prelude.{◌≡◌, List}
use Rattle.word_steps.specs.Folds.{works_held, body_held, ended_known, stays_queued}
use Rattle.word_steps.specs.Records.{Rec}

-- the works under each lock that is held, the body that is out, which bodies have ended, and that the current task is
-- still queued
pub record Untouched (old new : List Rec) : Type 0 where
  pub works : works_held new ≡ works_held old
  pub body : body_held new ≡ body_held old
  pub ended : ended_known new ≡ ended_known old
  pub stays : stays_queued new ≡ stays_queued old
