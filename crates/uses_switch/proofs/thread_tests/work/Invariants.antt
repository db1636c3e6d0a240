use Rattle.sched_switch.specs.Standing.{IsSteady}
use Rattle.task_words.specs.Views.{IsOneSeat}
use Rattle.uses_switch.proofs.thread_tests.work.Given as goal

abbrev pub invariant-loop : goal.invariant-loop
invariant-loop g l = record { same : IsOneSeat l.initial.pass l.pass; steady : IsSteady l.pass }
