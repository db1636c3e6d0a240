use Rattle.std.proofs.Common.{subst, sym}
use Rattle.std.specs.List.{All}
use Rattle.std.proofs.lemmas.List.Elements.{All-head, All-tail, All-push}
use Rattle.run_rounds.specs.Seats.{IsReady}
use Rattle.run_rounds.proofs.tests.seats_of.Goals as goal
use Rattle.run_turns.specs.Standing.{IsAtRest}
use Rattle.task_words.specs.Views.{IsOf}

pub seat_of-requires-clause-of : goal.seat_of-requires-clause-of
seat_of-requires-clause-of g c κs within =
    All-head (IsOf c.args.wk.now) _ _ (subst (All (IsOf c.args.wk.now)) c.in-Some.ensures.steps.0 c.loop-pass.invariant.of)

pub seat_of-requires-clause-rest : goal.seat_of-requires-clause-rest
seat_of-requires-clause-rest g c κs within =
    All-head IsAtRest _ _ (subst (All IsAtRest) c.in-Some.ensures.steps.0 c.loop-pass.invariant.rest)

pub loop-pass-preserved : goal.loop-pass-preserved
loop-pass-preserved g c = record {
  can_next = tt;
  is_finite = tt;
  of = All-tail (IsOf c.args.wk.now) _ _ (subst (All (IsOf c.args.wk.now)) c.in-Some.ensures.steps.0 c.loop-pass.invariant.of);
  rest = All-tail IsAtRest _ _ (subst (All IsAtRest) c.in-Some.ensures.steps.0 c.loop-pass.invariant.rest);
  ready = subst (All (IsReady c.args.wk.now)) (sym c.in_ok-push.ensures.items)
      (All-push (IsReady c.args.wk.now) _ _ c.loop-pass.invariant.ready c.in_ok-seat_of.ensures.ready);
}
