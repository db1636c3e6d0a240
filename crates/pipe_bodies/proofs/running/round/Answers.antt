use Rattle.std.proofs.Common.{ap, ◌∙◌, arith}
use Rattle.std.proofs.lemmas.List.{length-set}
use Rattle.std.proofs.Math.Seq.{map-set_same}
use Rattle.pipe_bodies.specs.Nets.{lasting_of}
use Rattle.pipe_bodies.proofs.RunLaws.{ended-at, ended-set, never}
use Rattle.pipe_bodies.proofs.running.round.Goals as goal

pub loop-i-preserved : goal.loop-i-preserved
loop-i-preserved g c = record {
  lasting = map-set_same lasting_of _ _ _ c.index_mut.result.now (c.in_ok-_verdict.ensures.lasting ∙ ap lasting_of c.index_mut.ensures.value) ∙ c.loop-i.invariant.lasting;
  count = length-set _ _ _ ∙ c.loop-i.invariant.count;
  ended = λ all. ended-set c.loop-i.bodies.items c.loop-i.i c.index_mut.result.now (c.loop-i.invariant.ended all) (let same = c.loop-i.invariant.count in let end = c.len-i-end.ensures in
      let more = c.loop-i-test.true in omega arith)
      c.index_mut.ensures.value c.turn.new.self c.in_ok-_verdict.ensures.ended;
}

pub returns-in_err-_verdict-clause-lasting : goal.returns-in_err-_verdict-clause-lasting
returns-in_err-_verdict-clause-lasting g c = map-set_same lasting_of _ _ _ c.index_mut.result.now (c.in_err-_verdict.ensures.lasting ∙ ap lasting_of c.index_mut.ensures.value)
    ∙ c.loop-i.invariant.lasting

pub returns-in_err-_verdict-clause-ended : goal.returns-in_err-_verdict-clause-ended
returns-in_err-_verdict-clause-ended g c = λ all.
    let over = c.in_err-_verdict.ensures.over (ended-at c.loop-i.bodies.items c.loop-i.i c.index_mut.result.now (c.loop-i.invariant.ended all) (let same = c.loop-i.invariant.count in
    let end = c.len-i-end.ensures in let more = c.loop-i-test.true in omega arith)
    c.index_mut.ensures.value) in
    absurd (never over.0)
