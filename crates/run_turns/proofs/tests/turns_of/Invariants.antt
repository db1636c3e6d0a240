use Rattle.run_turns.specs.Standing.{IsAtRest}
use Rattle.run_turns.proofs.tests.turns_of.Given as goal
use Rattle.task_words.specs.Views.{IsOneSeat}

abbrev pub invariant-loop : goal.invariant-loop
invariant-loop g l = record {
  same : IsOneSeat l.initial.pass l.pass;
  rest : IsAtRest l.pass;
}
