use Rattle.std.proofs.Common.{◌∙◌, arith}
use Rattle.std.proofs.lemmas.List.{get_or_default}
use Rattle.task_script.proofs.MapLaws.{no_feed_at}
use Rattle.task_script.proofs.byte_map.ByteMap.get.Goals as goal

pub returns-clause-no_feed : goal.returns-clause-no_feed
returns-clause-no_feed c =
    no_feed_at c.self.inside.bytes.items c.args.byte c.index.result.now c.self.invariant
    (c.index.ensures ∙ get_or_default c.self.inside.bytes.items c.args.byte c.index.result.now c.args.byte (omega (arith, c.self.invariant.count, c.ranges.byte)))
