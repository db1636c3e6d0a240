use Rattle.run_rounds.proofs.Keeping.{goes_again}
use Rattle.run_rounds.proofs.seat.burst.Goals as goal

pub returns-in_err-turn-clause-goes : goal.returns-in_err-turn-clause-goes
returns-in_err-turn-clause-goes g c =
    goes_again g.G.Gate.told c.args.seat.now c.loop-n.seat c.turn.new.seat c.loop-n.invariant.goes c.turn.ensures.goes

pub returns-then-not-branch-clause-goes : goal.returns-then-not-branch-clause-goes
returns-then-not-branch-clause-goes g c =
    goes_again g.G.Gate.told c.args.seat.now c.loop-n.seat c.turn.new.seat c.loop-n.invariant.goes c.turn.ensures.goes

pub loop-n-preserved : goal.loop-n-preserved
loop-n-preserved g c = record {
  goes = goes_again g.G.Gate.told c.args.seat.now c.loop-n.seat c.turn.new.seat c.loop-n.invariant.goes c.turn.ensures.goes;
  ready = c.in_ok-turn.ensures.ready;
}
