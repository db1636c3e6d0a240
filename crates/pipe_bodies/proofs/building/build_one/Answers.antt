use Rattle.std.proofs.Common.{◌∙◌}
use Rattle.pipe_bodies.specs.Rings.{in_ring}
use Rattle.pipe_bodies.specs.Courses.{plan_in}
use Rattle.std.proofs.lemmas.List.{length-map}
use Rattle.pipe_bodies.specs.Nets.{output_of, with_plan}
use Rattle.std.proofs.Common.{sym}
use Rattle.pipe_bodies.proofs.BuildLaws.{built-step, begun-push}
use Rattle.pipe_bodies.proofs.building.build_one.Goals as goal

pub returns-clause-built : goal.returns-clause-built
returns-clause-built g c = λ ds reads k b.
    rw c.in_ok-push.ensures.items
    (built-step ds (with_plan c.args.task.now (plan_in c.args.course)) reads c.args.bodies.now.items c.link.new.bodies.items c.link-2.new.bodies.items c.new.result c.args.number (in_ring
    c.in_ok-left.left) (in_ring c.in_ok-right.right)
    b c.requires.sides k (rw c.as_slice-from.ensures at c.in_ok-left.ensures.links) (rw (c.others.ensures, c.as_slice-from.ensures) at c.in_ok-right.ensures.links)
    (c.in_ok-right.ensures.parts ∙ c.in_ok-left.ensures.parts)
    c.new.ensures.lasting
    (c.requires.number ∙ sym (length-map c.args.bodies.now.items output_of) ∙ b.outputs_length))

pub returns-clause-begun : goal.returns-clause-begun
returns-clause-begun g c = rw c.in_ok-push.ensures.items
    (begun-push c.args.room c.link-2.new.bodies.items c.new.result c.args.number _ _ _ c.in_ok-right.ensures.begun c.new.ensures.lasting c.in_ok-left.ensures.rooms c.in_ok-right.ensures.rooms
    c.new.ensures.fresh)
