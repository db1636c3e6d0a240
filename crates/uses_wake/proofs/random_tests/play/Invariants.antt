use Rattle.task_words.specs.Seats.{IsBetween}
use Rattle.task_words.specs.Views.{IsOneSeat}
use Rattle.uses_wake.proofs.random_tests.play.Given as goal

abbrev pub invariant-loop : goal.invariant-loop
invariant-loop g l = record { same : IsOneSeat l.initial.pass l.pass; between : IsBetween l.pass }
