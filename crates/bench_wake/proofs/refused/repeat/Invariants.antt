use Rattle.bench_wake.proofs.refused.repeat.Given as goal
use Rattle.task_words.specs.Seats.{IsBetween}
use Rattle.task_words.specs.Views.{IsOneSeat}

abbrev pub invariant-loop : goal.invariant-loop
invariant-loop g l = record { same : IsOneSeat l.initial.pass l.pass; between : IsBetween l.pass }
