-- A seat that stands between two scenarios may walk along a wait queue, and stands so after it.
use Rattle.std.proofs.Common.{◌≡◌, ◌∙◌, ℕ, ap, sym, Some, None}
use Rattle.task_words.specs.Seats.{IsBetween}
use Rattle.task_words.specs.Views.{PassView, IsOneSeat}
use Rattle.wait_queue.specs.Settles.{IsFree, Settles}
use Rattle.word_steps.specs.Folds.{current_task, task_to_clear}

pub settles_between : (old new : PassView) → IsBetween old → IsOneSeat old new
    → Settles old.seat old.trace new.trace → IsBetween new
settles_between old new between same settles = record {
  free = record {
    nothing = record {
      tasks = λ u. settles.tasks u (between.free.nothing.tasks u);
      queues = settles.queues between.free.nothing.queues;
      works = λ c. (λ i. settles.untouched.works i c) ∙ between.free.nothing.works c;
      waits = λ k. settles.waits k (between.free.nothing.waits k);
      body = settles.untouched.body ∙ between.free.nothing.body;
    };
    unclaimed = λ u. settles.claimed u (between.free.unclaimed u);
  };
  idle = ap (λ (s : ℕ). current_task s new.trace) same.same_seat ∙ settles.current ∙ between.idle;
  clear = ap (λ (s : ℕ). task_to_clear s new.trace) same.same_seat ∙ settles.clear ∙ between.clear;
}

pub between_free : (pass : PassView) → IsBetween pass → IsFree pass.seat pass.trace
between_free pass between = record {
  tasks = between.free.nothing.tasks;
  queues = between.free.nothing.queues;
  claimed = between.free.unclaimed;
  cleared = between.clear;
  stays = λ t e. absurd (let no : None ≡ Some t = sym between.idle ∙ e in cc);
}
