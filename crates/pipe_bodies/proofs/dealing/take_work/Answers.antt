use Rattle.std.proofs.Common.{ap, ◌∙◌, set}
use Rattle.pipe_bodies.proofs.DealLaws.{left_at}
use Rattle.std.specs.Prelude.{slice_set}
use Rattle.pipe_bodies.specs.Courses.{seen_works}
use Rattle.pipe_bodies.proofs.dealing.take_work.Goals as goal

pub returns-clause-left : goal.returns-clause-left
returns-clause-left g c = ap (λ z. seen_works g.W.Work.meaning (slice_set c.args.works.now.items c.args.number z)) c.replace.ensures.after ∙ left_at g.W.Work.meaning c.args.works.now.items
    c.args.number
