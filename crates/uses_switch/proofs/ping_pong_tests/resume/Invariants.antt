use Rattle.task_words.specs.Views.{IsOneSeat}
use Rattle.uses_switch.proofs.ping_pong_tests.resume.Given as goal
use Rattle.uses_switch.specs.Seated.{IsIdle}

abbrev pub invariant-loop : goal.invariant-loop
invariant-loop g l = record { same : IsOneSeat l.initial.pass l.pass; idle : IsIdle l.pass }
