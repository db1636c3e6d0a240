use Rattle.std.proofs.Common.{sym}
use Rattle.pipe_tasks.proofs.CopyLaws.{copied}
use Rattle.pipe_tasks.proofs.copies.copy_lines.Goals as goal

pub loop-index-preserved : goal.loop-index-preserved
loop-index-preserved c = copied c.args.lines.now c.loop-index.copy.items c.push.new.self.items c.loop-index.index c.in-Some.line.now c.in_ok-copy_line.field-0
    (sym c.in-Some.ensures) c.in_ok-copy_line.ensures
    c.loop-index.invariant c.in_ok-push.ensures.items
