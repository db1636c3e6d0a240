-- What loads of busy words leave of a seat's trace.
use Rattle.std.specs.Prelude.{◌≡◌, ℕ, List}
use Rattle.word_steps.specs.Folds.{task_held, queue_held, wait_held, current_task, task_to_clear, is_claimed}
use Rattle.word_steps.specs.Folds.{has_matched, is_moving, has_stored, number_read}
use Rattle.word_steps.specs.Records.{Rec}
use Rattle.task_words.specs.Untouched.{Untouched}

pub record IsLoaded (s : ℕ) (old new : List Rec) : Type 0 where
  pub untouched : Untouched old new
  pub tasks : task_held new ≡ task_held old
  pub queues : queue_held new ≡ queue_held old
  pub waits : wait_held new ≡ wait_held old
  pub current : current_task s new ≡ current_task s old
  pub clear : task_to_clear s new ≡ task_to_clear s old
  pub claimed : is_claimed new ≡ is_claimed old
  pub matched : has_matched new ≡ has_matched old
  pub moving : is_moving new ≡ is_moving old
  pub stored : has_stored new ≡ has_stored old
  pub number : number_read new ≡ number_read old
