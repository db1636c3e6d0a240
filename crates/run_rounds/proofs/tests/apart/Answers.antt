use Rattle.std.proofs.Common.{subst, sym}
use Rattle.std.specs.List.{All}
use Rattle.std.proofs.lemmas.List.Elements.{All-tail, All-push}
use Rattle.run_rounds.specs.Seats.{IsReady}
use Rattle.run_rounds.proofs.tests.apart.Goals as goal

pub loop-seat-preserved : goal.loop-seat-preserved
loop-seat-preserved g c = record {
  can_next = tt;
  is_finite = tt;
  left = All-tail (IsReady c.args.wk.now) _ _ (subst (All (IsReady c.args.wk.now)) c.in-Some.ensures.steps.0 c.loop-seat.invariant.left);
  ready = subst (All (λ w. All (IsReady c.args.wk.now) w.seats.items)) (sym c.in_ok-push.ensures.items)
      (All-push (λ w. All (IsReady c.args.wk.now) w.seats.items) _ _ c.loop-seat.invariant.ready c.in_ok-alone.ensures.ready);
}
