use Rattle.bench_wake.proofs.runnable.repeat_stores.Given as goal
use Rattle.task_words.specs.Seats.{IsRunning}
use Rattle.task_words.specs.Views.{IsOf}

abbrev pub invariant-loop : goal.invariant-loop
invariant-loop l = record { of : IsOf l.wk l.sleeper; running : IsRunning 0 l.sleeper }
