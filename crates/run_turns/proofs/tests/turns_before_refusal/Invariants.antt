use Rattle.run_turns.specs.Standing.{IsAtRest}
use Rattle.run_turns.proofs.tests.turns_before_refusal.Given as goal
use Rattle.task_words.specs.Views.{IsOneSeat}

abbrev pub invariant-loop-n : goal.invariant-loop-n
invariant-loop-n g l = record {
  same : IsOneSeat l.initial.pass l.pass;
  rest : IsAtRest l.pass;
}
