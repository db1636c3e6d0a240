use Rattle.std.proofs.Common.{get_or, ◌∙◌, sym}
use Rattle.pipe_bodies.specs.Rings.{ring_out}
use Rattle.pipe_bodies.proofs.BuildLaws.{parts-joined, outputs-joined, links-by, pair-ring, begun-at, begun-joined}
use Rattle.pipe_bodies.proofs.building.link.Goals as goal

pub join-requires-clause-fresh : goal.join-requires-clause-fresh
join-requires-clause-fresh g c κs within =
    (begun-at c.args.room c.args.from.now c.args.bodies.now.items c.index_mut.result.now c.in-len1-up.len_at_least c.requires.free c.index_mut.ensures.value c.requires.begun).fresh

pub returns-in_ok-producer-in-len1-up-clause-links : goal.returns-in_ok-producer-in-len1-up-clause-links
returns-in_ok-producer-in-len1-up-clause-links g c = let same = pair-ring c.in_ok-producer-in-len1-up.producer c.in_ok-producer-in-len1-up.consumer c.in_ok-producer-in-len1-up.ensures.pair
    (c.in_ok-producer-in-len1-up.ensures.producer.2 ∙ sym c.in_ok-producer-in-len1-up.ensures.consumer.2) in
    rw (← same) (links-by c.args.from.now _ _ (ring_out c.in_ok-producer-in-len1-up.producer) c.in-len1-up.len_at_least
    (outputs-joined c.args.bodies.now.items (get_or c.args.from.now 0 0) c.index_mut.result.now
    c.join.new.self _ c.index_mut.ensures.value c.join.ensures.lasting))

pub returns-in_ok-producer-in-len1-up-clause-parts : goal.returns-in_ok-producer-in-len1-up-clause-parts
returns-in_ok-producer-in-len1-up-clause-parts g c =
    parts-joined c.args.bodies.now.items (get_or c.args.from.now 0 0) c.index_mut.result.now c.join.new.self _ c.index_mut.ensures.value c.join.ensures.lasting

pub returns-in_ok-producer-in-len1-up-clause-begun : goal.returns-in_ok-producer-in-len1-up-clause-begun
returns-in_ok-producer-in-len1-up-clause-begun g c = begun-joined c.args.room c.args.bodies.now.items (get_or c.args.from.now 0 0) c.index_mut.result.now c.join.new.self _ c.requires.begun
    (begun-at c.args.room c.args.from.now c.args.bodies.now.items c.index_mut.result.now c.in-len1-up.len_at_least c.requires.free c.index_mut.ensures.value c.requires.begun)
    c.join.ensures.lasting c.in_ok-producer-in-len1-up.ensures.producer.2 c.join.ensures.fresh
