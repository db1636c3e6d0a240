use Rattle.bench_steps.proofs.own.repeat_own.Given as goal
use Rattle.task_words.specs.Seats.{IsRunning}
use Rattle.task_words.specs.Views.{IsOneSeat}

abbrev pub invariant-loop : goal.invariant-loop
invariant-loop g l = record { same : IsOneSeat l.initial.pass l.pass; running : IsRunning 0 l.pass }
