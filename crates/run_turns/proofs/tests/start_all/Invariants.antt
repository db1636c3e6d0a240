use Rattle.run_turns.specs.Standing.{IsAtRest}
use Rattle.run_turns.proofs.tests.start_all.Given as goal
use Rattle.task_words.specs.Views.{IsOneSeat}

abbrev pub invariant-loop-t : goal.invariant-loop-t
invariant-loop-t g l = record {
  same : IsOneSeat l.initial.pass l.pass;
  rest : IsAtRest l.pass;
}
