use Rattle.bench_wake.proofs.runnable.repeat.Given as goal
use Rattle.task_words.specs.Seats.{IsBetween, IsRunning}
use Rattle.task_words.specs.Views.{IsOf}

abbrev pub invariant-loop : goal.invariant-loop
invariant-loop g l = record {
  waker : IsOf l.wk l.waker;
  sleeper : IsOf l.wk l.sleeper;
  between : IsBetween l.waker;
  running : IsRunning 0 l.sleeper;
}
