use Rattle.std.proofs.Common.{rules, refl, ◌∙◌}
use Rattle.run_rounds.proofs.Keeping.{go_all_none, go_all_again}
use Rattle.run_rounds.proofs.rounds.run_rounds.Goals as goal

pub loop-init : goal.loop-init
loop-init g c = record { count = refl; goes = go_all_none g.G.Gate.told c.args.workers.now.items; ready = c.requires.ready }

pub returns-then-not-is_granted-clause-goes : goal.returns-then-not-is_granted-clause-goes
returns-then-not-is_granted-clause-goes g c =
    go_all_again g.G.Gate.told c.args.workers.now.items c.loop.workers.items c.round.new.workers.items c.loop.invariant.count c.loop.invariant.goes c.round.ensures.goes

pub returns-then-is_over-clause-goes : goal.returns-then-is_over-clause-goes
returns-then-is_over-clause-goes g c =
    go_all_again g.G.Gate.told c.args.workers.now.items c.loop.workers.items c.round.new.workers.items c.loop.invariant.count c.loop.invariant.goes c.round.ensures.goes

pub loop-preserved : goal.loop-preserved
loop-preserved g c = record {
  count = c.round.ensures.count ∙ c.loop.invariant.count;
  goes = go_all_again g.G.Gate.told c.args.workers.now.items c.loop.workers.items c.round.new.workers.items c.loop.invariant.count c.loop.invariant.goes c.round.ensures.goes;
  ready = search rules;
}
