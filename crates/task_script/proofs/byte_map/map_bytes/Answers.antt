use Rattle.std.proofs.Common.{get_or, arith}
use Rattle.std.proofs.lemmas.List.{get_or_default}
use Rattle.task_script.proofs.MapLaws.{one_more}
use Rattle.task_script.proofs.byte_map.map_bytes.Goals as goal

pub loop-byte-preserved : goal.loop-byte-preserved
loop-byte-preserved c =
    let byte = get_or c.loop-byte.bytes c.loop-byte.byte-index 0 in
    one_more c.args.table.now c.args.bytes.now c.loop-byte.bytes c.loop-byte.byte-index (get_or c.args.table.now byte 0) c.loop-byte-test.true c.loop-byte.auto.bytes c.loop-byte.invariant
    (get_or_default c.args.table.now byte 0 byte (omega arith))
