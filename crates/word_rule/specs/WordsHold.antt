-- What words, values at home and traces keep between any two steps.
use Rattle.std.specs.Prelude.{ℕ, List}
use Rattle.core_invariant.specs.Invariant.{Holds}
use Rattle.core_law.specs.Reached.{IsReached}
use Rattle.handoff_data.specs.declared.shape.Shape.{Shape}
use Rattle.word_rule.specs.Bodies.{BodiesKnown}
use Rattle.word_rule.specs.Masks.{MasksHold}
use Rattle.word_rule.specs.Own.{OwnHolds}
use Rattle.word_rule.specs.Standing.{StandingHolds, RunsHold, OffHolds, GrownHolds}
use Rattle.word_rule.specs.Ways.{WaysHold}
use Rattle.word_steps.specs.TraceFacts.{MovingHolds, CurrentHolds, NumbersHold, MatchedHolds, QueuedHolds, PutHolds}
use Rattle.word_steps.specs.TraceFacts.{EndedHolds, CountsZero, StatesFit}
use Rattle.word_steps.specs.Decode.{Homes, core_of}
use Rattle.word_steps.specs.Exclusives.{ExclusivesHold}
use Rattle.word_steps.specs.Records.{Rec}

-- the core that they show is one that a machine comes to, so each law of such cores holds of it, and the invariant; and
-- what stands beside it
pub record WordsHold (shape : Shape) (words : ℕ → ℕ → ℕ) (homes : Homes) (traces : ℕ → List Rec) : Type 0 where
  pub reached : IsReached (core_of shape words homes traces)
  pub holds : Holds (core_of shape words homes traces)
  pub moving : MovingHolds words traces
  pub current : CurrentHolds words traces
  pub numbers : NumbersHold words traces
  pub matched : MatchedHolds words traces
  pub queued : QueuedHolds words traces
  pub exclusives : ExclusivesHold words homes.wait traces
  pub put_there : PutHolds words traces
  pub ended : EndedHolds homes.ended traces
  pub counts : CountsZero words
  pub states : StatesFit words
  pub standing : StandingHolds words traces
  pub runs : RunsHold words traces
  pub off : OffHolds words traces
  pub grown : GrownHolds words traces
  pub known : BodiesKnown traces
  pub own : OwnHolds words traces
  pub ways : WaysHold words traces
  pub masks : MasksHold homes traces
