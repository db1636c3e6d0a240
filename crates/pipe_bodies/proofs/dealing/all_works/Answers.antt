use Rattle.std.proofs.Common.{ap, ◌∙◌, map, arith}
use Rattle.std.specs.Prelude.{Some}
use Rattle.pipe_bodies.specs.Courses.{seen_works}
use Rattle.pipe_bodies.proofs.DealLaws.{all_seen, all_at_end}
use Rattle.pipe_bodies.proofs.dealing.all_works.Goals as goal

pub returns : goal.returns
returns g c = ap (seen_works g.W.Work.meaning) (c.loop-custom.invariant.works
    ∙ ap (map Some) (all_at_end c.loop-custom.yielded c.loop-custom.custom-iterator.rest.items c.args.customs.items
    (omega (arith, c.in-None.ensures.steps.0, c.loop-custom.custom-iterator.rest.ok)) c.loop-custom.invariant.all))
    ∙ all_seen g.W.Work.meaning c.args.customs.items
