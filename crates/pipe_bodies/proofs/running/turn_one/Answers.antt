use Rattle.std.proofs.Common.{ap, ◌∙◌, ◌%◌, arith, refl}
use Rattle.std.proofs.lemmas.Nat.{mod_below}
use Rattle.std.proofs.Math.Seq.{map-set_same}
use Rattle.pipe_bodies.specs.Nets.{lasting_of}
use Rattle.pipe_bodies.proofs.RunLaws.{ended-at, ended-set, never}
use Rattle.pipe_bodies.proofs.running.turn_one.Goals as goal

pub returns-in_err-_verdict-clause-lasting : goal.returns-in_err-_verdict-clause-lasting
returns-in_err-_verdict-clause-lasting g c = map-set_same lasting_of _ _ _ c.index_mut.result.now (c.in_err-_verdict.ensures.lasting ∙ ap lasting_of c.index_mut.ensures.value)

pub returns-in_err-_verdict-clause-ended : goal.returns-in_err-_verdict-clause-ended
returns-in_err-_verdict-clause-ended g c = λ all.
    let over = c.in_err-_verdict.ensures.over (ended-at c.args.bodies.now.items (c.args.place % c.len-count.result) c.index_mut.result.now all (let count = c.len-count.ensures in
    let some = c.if-count-gt0.true in let below = mod_below c.args.place c.len-count.result some in omega arith)
    c.index_mut.ensures.value) in
    absurd (never over.0)

pub returns-in_ok-_verdict-clause-lasting : goal.returns-in_ok-_verdict-clause-lasting
returns-in_ok-_verdict-clause-lasting g c = map-set_same lasting_of _ _ _ c.index_mut.result.now (c.in_ok-_verdict.ensures.lasting ∙ ap lasting_of c.index_mut.ensures.value)

pub returns-in_ok-_verdict-clause-ended : goal.returns-in_ok-_verdict-clause-ended
returns-in_ok-_verdict-clause-ended g c = λ all. (
  refl,
  ended-set c.args.bodies.now.items (c.args.place % c.len-count.result) c.index_mut.result.now all (let count = c.len-count.ensures in let some = c.if-count-gt0.true in
      let below = mod_below c.args.place c.len-count.result some in omega arith)
      c.index_mut.ensures.value c.turn.new.self c.in_ok-_verdict.ensures.ended,
)
