use Rattle.std.proofs.Common.{◌≡◌}
use Rattle.run_rounds.proofs.tests.seat_of.Given as goal
use Rattle.run_turns.specs.Standing.{IsAtRest}
use Rattle.task_words.specs.Views.{IsOf}

abbrev pub invariant-loop-t : goal.invariant-loop-t
invariant-loop-t g l = record {
  of : IsOf l.wk l.pass;
  rest : IsAtRest l.pass;
  seat : l.pass.seat ≡ l.c;
}
