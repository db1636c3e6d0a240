use Rattle.std.proofs.Common.{sym}
use Rattle.script_writer.proofs.LoopLaws.{one_text}
use Rattle.script_writer.proofs.writing.push_texts.Goals as goal

pub loop-index-preserved : goal.loop-index-preserved
loop-index-preserved c =
    one_text c.loop-index.bytes.items c.push_text.new.bytes.items _ c.args.texts.now c.loop-index.index c.in-Some.text.now c.as_slice.result.now (sym c.in-Some.ensures) c.as_slice.ensures.bytes
    c.in_ok-push_text.ensures c.loop-index.invariant
