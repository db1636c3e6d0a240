use Rattle.std.proofs.Common.{ap, ◌∙◌}
use Rattle.std.proofs.Math.Seq.{map-set_same}
use Rattle.pipe_bodies.specs.Rings.{out_ring}
use Rattle.pipe_bodies.specs.Nets.{sent_by}
use Rattle.pipe_bodies.proofs.settling.look_at.Goals as goal

pub returns-in-len1-up-clause-rings : goal.returns-in-len1-up-clause-rings
returns-in-len1-up-clause-rings c = map-set_same out_ring _ _ _ c.index_mut.result.now (c.look.ensures.ring ∙ ap out_ring c.index_mut.ensures.value)

pub returns-in-len1-up-clause-pasts : goal.returns-in-len1-up-clause-pasts
returns-in-len1-up-clause-pasts c = map-set_same sent_by _ _ _ c.index_mut.result.now (c.look.ensures.past ∙ ap sent_by c.index_mut.ensures.value)
