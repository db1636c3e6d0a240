use Rattle.task_words.specs.Views.{IsOneSeat}
use Rattle.uses_switch.proofs.ping_pong_tests.play.Given as goal
use Rattle.uses_switch.specs.Seated.{IsRunning}

abbrev pub invariant-loop-count : goal.invariant-loop-count
invariant-loop-count g l = record { same : IsOneSeat l.initial.pass l.pass; running : IsRunning l.t l.pass }
