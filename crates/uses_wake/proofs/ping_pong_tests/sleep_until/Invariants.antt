use Rattle.task_words.specs.Seats.{IsRunning}
use Rattle.task_words.specs.Views.{IsOneSeat}
use Rattle.uses_wake.proofs.ping_pong_tests.sleep_until.Given as goal

abbrev pub invariant-loop : goal.invariant-loop
invariant-loop g l = record { same : IsOneSeat l.initial.pass l.pass; running : IsRunning l.t l.pass }
