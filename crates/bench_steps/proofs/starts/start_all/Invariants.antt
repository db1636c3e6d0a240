use Rattle.bench_steps.proofs.starts.start_all.Given as goal
use Rattle.task_words.specs.Seats.{IsBetween}
use Rattle.task_words.specs.Views.{IsOneSeat}

abbrev pub invariant-loop-t : goal.invariant-loop-t
invariant-loop-t g l = record { same : IsOneSeat l.initial.pass l.pass; between : IsBetween l.pass }
