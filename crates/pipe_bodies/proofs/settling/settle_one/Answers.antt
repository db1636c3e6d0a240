use Rattle.std.proofs.Common.{◌∙◌, ap, sym, subst}
use Rattle.pipe_bodies.specs.Nets.{with_plan}
use Rattle.pipe_bodies.specs.Parts.{Rings, KeepsNone}
use Rattle.pipe_bodies.proofs.NetLaws.{settled}
use Rattle.pipe_bodies.proofs.settling.settle_one.Goals as goal

pub returns-clause-lines : goal.returns-clause-lines
returns-clause-lines g c = λ done all.
    rw (c.in_ok-push.ensures.items, c.in_ok-push-2.ensures.items)
    (settled (with_plan c.args.task.now c.args.body.lasting.begun) c.args.body.lasting c.args.body.seen c.apart-parts.result c.look_at.new.input c.look_at-2.new.input c.args.outputs.now.items
    c.look_at.new.outputs.items
    c.look_at-2.new.outputs.items c.args.kept.now.items done
    (c.apart-parts.ensures.sound c.requires.ended) c.requires.ended
    (subst (λ z. KeepsNone z c.apart-parts.result.kept) (ap (λ (z : Rings). z.output) (sym c.apart-parts.ensures.rings))
    (subst (λ z. KeepsNone c.args.body.lasting.rings.output z) (sym c.apart-parts.ensures.kept)
    c.apart-parts.ensures.bare))
    c.requires.joint all c.apart-parts.ensures.seen c.look_at.ensures.got c.look_at-2.ensures.got
    c.look_at.ensures.pasts (c.look_at-2.ensures.rings ∙ c.look_at.ensures.rings) (c.look_at-2.ensures.pasts ∙ c.look_at.ensures.pasts)
    (rw c.as_slice.ensures at c.look_at.ensures.fifo)
    (rw (c.others.ensures, c.as_slice-2.ensures) at c.look_at-2.ensures.fifo))
