use Rattle.std.proofs.Common.{◌≡◌}
use Rattle.std.specs.List.{All}
use Rattle.run_rounds.specs.Seats.{IsReady}
use Rattle.run_rounds.proofs.tests.seats_of.Given as goal
use Rattle.run_turns.specs.Standing.{IsAtRest}
use Rattle.task_words.specs.Views.{IsOf}

abbrev pub invariant-loop-pass : goal.invariant-loop-pass
invariant-loop-pass g l = record {
  can_next : (goal.iterator-loop-pass g).can_next l.pass-iterator;
  is_finite : (goal.iterator-loop-pass g).is_finite l.pass-iterator;
  of : All (IsOf l.wk) l.pass-iterator.rest.items;
  rest : All IsAtRest l.pass-iterator.rest.items;
  ready : All (IsReady l.wk) l.seats.items;
}
