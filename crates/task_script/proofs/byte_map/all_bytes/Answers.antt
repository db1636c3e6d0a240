use Rattle.std.proofs.Common.{◌+◌, refl, ◌∙◌}
use Rattle.task_script.proofs.MapLaws.{byte_more}
use Rattle.task_script.proofs.byte_map.all_bytes.Goals as goal

pub loop-byte-preserved : goal.loop-byte-preserved
loop-byte-preserved c = c.in_ok-push.ensures.items ∙ byte_more c.loop-byte.bytes.items c.loop-byte.byte (c.loop-byte.byte + 1) refl c.loop-byte.invariant
