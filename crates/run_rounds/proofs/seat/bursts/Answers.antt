use Rattle.std.proofs.Common.{◌∙◌, arith, set}
use Rattle.std.proofs.lemmas.List.{length-set}
use Rattle.std.proofs.lemmas.List.Elements.{All-set}
use Rattle.run_rounds.proofs.Keeping.{go_on_again, go_on_one}
use Rattle.run_rounds.specs.Seats.{IsReady}
use Rattle.run_rounds.proofs.seat.bursts.Goals as goal

pub returns-in_err-burst-clause-goes : goal.returns-in_err-burst-clause-goes
returns-in_err-burst-clause-goes g c =
    go_on_again g.G.Gate.told c.args.seats.now.items c.loop-i.seats.items (set c.loop-i.seats.items c.loop-i.i c.burst.new.seat) c.loop-i.invariant.goes
    (go_on_one g.G.Gate.told c.loop-i.seats.items c.loop-i.i c.index_mut.result.now c.burst.new.seat
    (let same = c.loop-i.invariant.count in let end = c.len-i-end.ensures in let more = c.loop-i-test.true in omega arith)
    c.index_mut.ensures.value c.burst.ensures.goes)

pub loop-i-preserved : goal.loop-i-preserved
loop-i-preserved g c = record {
  goes = go_on_again g.G.Gate.told c.args.seats.now.items c.loop-i.seats.items (set c.loop-i.seats.items c.loop-i.i c.burst.new.seat) c.loop-i.invariant.goes
      (go_on_one g.G.Gate.told c.loop-i.seats.items c.loop-i.i c.index_mut.result.now c.burst.new.seat
      (let same = c.loop-i.invariant.count in let end = c.len-i-end.ensures in let more = c.loop-i-test.true in omega arith)
      c.index_mut.ensures.value c.burst.ensures.goes);
  ready = All-set (IsReady c.args.wk.now) c.loop-i.seats.items c.loop-i.i c.burst.new.seat c.in_ok-burst.ensures.ready c.loop-i.invariant.ready;
  count = length-set _ _ _ ∙ c.loop-i.invariant.count;
}
