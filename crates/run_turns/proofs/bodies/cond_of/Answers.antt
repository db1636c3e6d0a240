use Rattle.std.proofs.Common.{◌≡◌, ◌∙◌, ◌∷◌, ap}
use Rattle.run_cells.specs.declared.cell.Cell.{Cell}
use Rattle.run_turns.proofs.BodyLaws.{may_come_home, came_home, rest_body}
use Rattle.run_turns.proofs.RestLaws.{same_again}
use Rattle.run_turns.proofs.bodies.cond_of.Given.{Over}
use Rattle.run_turns.proofs.bodies.cond_of.Goals as goal
use Rattle.word_steps.specs.Records.{OutBody, HomeBody}

pub body_home-requires-clause-may : goal.body_home-requires-clause-may
body_home-requires-clause-may g c κs within =
    may_come_home c.args.pass.now c.body_out-out.new.pass c.args.t c.body_out-out.result.body.body.seen.ended c.take_cond-kept.new.cell.body.seen.ended
    c.body_out-out.ensures.same c.requires.current c.body_out-out.ensures.trace
    (λ x. c.take_cond-kept.ensures.ended ∙ ap (λ (b : Cell _). b.body.seen.ended) c.body_mut.ensures.value ∙ x)

did : (g : Over) (c : goal.After-body_home g)
    → c.body_home.new.pass.trace
    ≡ HomeBody c.args.t c.take_cond-kept.new.cell.body.seen.ended ∷ OutBody c.args.t c.body_out-out.result.body.body.seen.ended ∷ c.args.pass.now.trace
did g c =
    came_home c.args.pass.now c.body_out-out.new.pass c.body_home.new.pass c.args.t c.body_out-out.result.body.body.seen.ended c.take_cond-kept.new.cell.body.seen.ended
    c.body_out-out.ensures.same c.requires.current c.body_out-out.ensures.trace c.body_home.ensures.trace

pub returns-clause-rest : goal.returns-clause-rest
returns-clause-rest g c =
    rest_body c.args.pass.now c.body_home.new.pass c.args.t c.body_out-out.result.body.body.seen.ended c.take_cond-kept.new.cell.body.seen.ended
    (same_again c.args.pass.now c.body_out-out.new.pass c.body_home.new.pass c.body_out-out.ensures.same c.body_home.ensures.same) (did g c) c.requires.rest

pub returns-clause-did : goal.returns-clause-did
returns-clause-did g c =
    let e = c.body_out-out.result.body.body.seen.ended in
    record {
      ended = e;
      did = did g c
          ∙ ap (λ z. HomeBody c.args.t z ∷ OutBody c.args.t e ∷ c.args.pass.now.trace)
          (c.take_cond-kept.ensures.ended ∙ ap (λ (b : Cell _). b.body.seen.ended) c.body_mut.ensures.value);
    }
