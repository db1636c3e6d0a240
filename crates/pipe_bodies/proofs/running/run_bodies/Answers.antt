use Rattle.std.proofs.Common.{◌∙◌, sym, subst, arith, All}
use Rattle.pipe_bodies.specs.Nets.{IsNet, HasEnded, begun_tasks}
use Rattle.pipe_bodies.proofs.RunLaws.{not_all}
use Rattle.pipe_bodies.proofs.running.run_bodies.Goals as goal

pub settle-requires-clause-net : goal.settle-requires-clause-net
settle-requires-clause-net g c = λ _ _. subst (λ z. IsNet (begun_tasks c.args.tasks.now z) z) (sym (c.in_ok-round.ensures.lasting ∙ c.loop.invariant.lasting)) c.requires

pub loop-preserved : goal.loop-preserved
loop-preserved g c = record {
  lasting = c.in_ok-round.ensures.lasting ∙ c.loop.invariant.lasting;
  ended = λ all. (c.in_ok-round.ensures.ended (c.loop.invariant.ended all)).1;
  running = λ _ all. not_all c.have_ended.result c.as_slice.result.now c.have_ended.ensures c.if-have_ended.false
      (subst (λ z. All HasEnded z) (sym c.as_slice.ensures.value) (c.in_ok-round.ensures.ended (c.loop.invariant.ended all)).1);
}

pub returns-clause-ended : goal.returns-clause-ended
returns-clause-ended g c = λ some all. absurd (c.loop.invariant.running (let off = c.loop-test.false in omega arith) all)
