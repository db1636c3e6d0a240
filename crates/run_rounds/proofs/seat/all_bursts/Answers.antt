use Rattle.run_rounds.proofs.Keeping.{go_on_again}
use Rattle.run_rounds.proofs.seat.all_bursts.Goals as goal

pub returns-in_err-ran-clause-goes : goal.returns-in_err-ran-clause-goes
returns-in_err-ran-clause-goes g c =
    go_on_again g.G.Gate.told c.args.seats.now.items c.loop.seats.items c.bursts.new.seats.items c.loop.invariant.goes c.bursts.ensures.goes

pub returns-then-not-goes_on-clause-goes : goal.returns-then-not-goes_on-clause-goes
returns-then-not-goes_on-clause-goes g c =
    go_on_again g.G.Gate.told c.args.seats.now.items c.loop.seats.items c.bursts.new.seats.items c.loop.invariant.goes c.bursts.ensures.goes

pub loop-preserved : goal.loop-preserved
loop-preserved g c = record {
  goes = go_on_again g.G.Gate.told c.args.seats.now.items c.loop.seats.items c.bursts.new.seats.items c.loop.invariant.goes c.bursts.ensures.goes;
  ready = c.in_ok-ran.ensures.ready;
}
