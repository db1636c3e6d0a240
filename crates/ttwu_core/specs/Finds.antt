-- Where a waker finds a task whose state matches, and what it does to find it.
use Rattle.std.specs.Prelude.{◌≡◌, ◌≢◌, ℕ, ◌∷◌, [], true, List, Option, Some, None, IfSome}
use Rattle.std.specs.List.{All}
use Rattle.task_words.specs.Folds.{saw_off, number_read}
use Rattle.task_words.specs.Queue.{Queue}
use Rattle.task_words.specs.Records.{Rec, Took, Gave, MadeRunnable, LoadedRq, LoadedCpu}
use Rattle.task_words.specs.Rq.{Rq}
use Rattle.task_words.specs.Val.TheVariants as val
use Rattle.ttwu_core.specs.declared.finding.Found.{Found}
use Rattle.ttwu_core.specs.declared.finding.Found.TheVariants as found

-- the queue word of t was read again and again, newest first
abbrev pub rq_reads : ℕ → List Rq → List Rec → List Rec
rq_reads t [] trace = trace
rq_reads t (r ∷ rs) trace = LoadedRq t r.on r.m ∷ rq_reads t rs trace

-- .. until it was 0, with m changes
pub record IsAwaited (t m : ℕ) (old new : List Rec) : Type 0 where
  pub waits : List Rq
  pub queued : All (λ r. r.on ≢ 0) waits
  pub did : new ≡ LoadedRq t 0 m ∷ rq_reads t waits old

-- a look at the queue of a task: its queue word as it was read first, its processor, that processor's queue, and the
-- queue word as it was read under that queue's lock
pub record Look : Type 0 where
  pub first : Rq
  pub cpu : ℕ
  pub queue : Queue
  pub second : Rq

abbrev pub looked : ℕ → Look → List Rec → List Rec
looked t x trace =
    LoadedRq t x.second.on x.second.m ∷ Took x.cpu (val.Queue x.queue) ∷ LoadedCpu t x.cpu
    ∷ LoadedRq t x.first.on x.first.m ∷ trace

-- the task had left that queue meanwhile, so its queue word was read until it was 0
pub record Left : Type 0 where
  pub look : Look
  pub waits : List Rq

pub record IsLeft (x : Left) : Type 0 where
  pub queued : x.look.first.on ≢ 0
  pub gone : x.look.second.on ≢ 1
  pub waits : All (λ r. r.on ≢ 0) x.waits

-- t was read as off every queue, with m changes: at once, or after it had left its queue
abbrev pub off_reads : ℕ → Option Left → ℕ → List Rec → List Rec
off_reads t None m trace = LoadedRq t 0 m ∷ trace
off_reads t (Some x) m trace =
    LoadedRq t 0 m
    ∷ rq_reads t x.waits (Gave x.look.cpu (val.Queue x.look.queue) (val.Queue x.look.queue) ∷ looked t x.look trace)

pub record IsFoundOff (t m : ℕ) (old new : List Rec) : Type 0 where
  pub left : Option Left
  pub left_so : IfSome left IsLeft
  pub did : new ≡ off_reads t left m old
  pub off : saw_off new t ≡ true
  pub number : number_read new t ≡ Some m
  -- only a new task has no change, and no mask matches its state
  pub changed : m ≢ 0

-- t was read as queued, also under the lock of its queue, and TASK_RUNNING stored there
abbrev pub made_runnable_there : ℕ → Look → List Rec → List Rec
made_runnable_there t x trace =
    Gave x.cpu (val.Queue x.queue) (val.Queue x.queue) ∷ MadeRunnable t ∷ looked t x trace

pub record IsFoundQueued (t : ℕ) (old new : List Rec) : Type 0 where
  pub look : Look
  pub queued : look.first.on ≢ 0
  pub there : look.second.on ≡ 1
  pub did : new ≡ made_runnable_there t look old

abbrev pub DidFind : ℕ → List Rec → List Rec → Found → Type 0
DidFind t old new (found.Off m) = IsFoundOff t m old new
DidFind t old new found.Runnable = IsFoundQueued t old new
