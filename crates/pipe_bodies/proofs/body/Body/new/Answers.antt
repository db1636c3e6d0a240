use Rattle.std.proofs.Common.{ap, sym, refl}
use Rattle.pipe_bodies.specs.Courses.{plan_in}
use Rattle.pipe_bodies.specs.Rings.{in_ring}
use Rattle.pipe_bodies.specs.Bodies.{lasting_by, fresh_seen}
use Rattle.pipe_bodies.proofs.BodyLaws.{Stands-fresh, plan_of-at}
use Rattle.pipe_bodies.proofs.body.Body.new.Goals as goal

pub invariant_of-result : goal.invariant_of-result
invariant_of-result g c = (
  rw (c.requires.empty.0, c.requires.empty.1, c.new.ensures, c.new-3.ensures) (Stands-fresh c.of-origin.result.numbers (plan_in c.args.course) _ c.of-origin.ensures c.requires.joined),
  tt,
  c.new-2.ensures,
)

pub returns-clause-lasting : goal.returns-clause-lasting
returns-clause-lasting g c = ap (λ z. lasting_by c.args.task z (in_ring c.args.left) (in_ring c.args.right)) (plan_of-at c.of-origin.result.numbers (plan_in c.args.course) c.of-origin.ensures)

pub returns-clause-fresh : goal.returns-clause-fresh
returns-clause-fresh g c = record {
  seen = rw (c.requires.empty.0, c.requires.empty.1, c.new.ensures, c.new-3.ensures) (ap fresh_seen (sym (plan_of-at c.of-origin.result.numbers (plan_in c.args.course) c.of-origin.ensures)));
  known = rw (c.requires.empty.2, c.requires.empty.3) refl;
  kept = c.new.ensures;
  unbroken = refl;
}
