use Rattle.std.proofs.Common.{◌≡◌, arith, subst, IfOk}
use Rattle.pipe_tasks.proofs.ForestLaws.{two_taken}
use Rattle.pipe_tasks.proofs.forest.run_reader.Goals as goal

pub returns-in-len2-clause-lines : goal.returns-in-len2-clause-lines
returns-in-len2-clause-lines c = subst (λ z. IfOk c.run_join.result (λ r. r ≡ z))
    (two_taken c.args.plan c.args.from.now c.args.done.now.items c.take_lines-left.new.done.items c.take_lines-left.result c.take_lines-right.result (omega arith) c.requires.once
    c.take_lines-left.ensures.lines c.take_lines-left.ensures.taken c.take_lines-right.ensures.lines) c.run_join.ensures
