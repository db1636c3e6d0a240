use Rattle.task_words.specs.Seats.{IsBetween}
use Rattle.task_words.specs.Views.{IsOneSeat}
use Rattle.uses_words.proofs.death_tests.begin_all.Given as goal

abbrev pub invariant-loop-t : goal.invariant-loop-t
invariant-loop-t g l = record { same : IsOneSeat l.initial.pass l.pass; between : IsBetween l.pass }
