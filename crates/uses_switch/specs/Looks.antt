-- What a seat leaves as it was that looks at the state of a task again and again.
use Rattle.std.specs.Prelude.{◌≡◌, ℕ, List}
use Rattle.task_words.specs.Gives.{quiet_since}
use Rattle.word_steps.specs.Folds.{task_held, queue_held, is_claimed, is_moving, has_stored}
use Rattle.word_steps.specs.Records.{Rec}

pub record HasLooked (old new : List Rec) : Type 0 where
  pub quiet : quiet_since new ≡ quiet_since old
  pub tasks : task_held new ≡ task_held old
  pub queues : queue_held new ≡ queue_held old
  pub claimed : is_claimed new ≡ is_claimed old
  pub moving : is_moving new ≡ is_moving old
  pub stored : has_stored new ≡ has_stored old
