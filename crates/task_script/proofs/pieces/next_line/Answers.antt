use Rattle.std.proofs.Common.{arith, rules}
use Rattle.task_script.proofs.LineLaws.{line_found, last_line, none_up_to, none_at_all}
use Rattle.task_script.proofs.pieces.next_line.Goals as goal

pub returns-in-Some-clause-lines : goal.returns-in-Some-clause-lines
returns-in-Some-clause-lines c = line_found c.args.bytes.now c.in-Some.end c.in-Some.ensures.0 c.in-Some.ensures.1

pub returns-in-Some-clause-line : goal.returns-in-Some-clause-line
returns-in-Some-clause-line c = none_up_to 10 c.args.bytes.now c.in-Some.end (omega (arith, c.in-Some.ensures.0.high)) c.in-Some.ensures.0.before

pub returns-in-None-clause-line : goal.returns-in-None-clause-line
returns-in-None-clause-line c = none_at_all 10 c.args.bytes.now c.in-None.ensures

pub returns-in-None-clause-lines : goal.returns-in-None-clause-lines
returns-in-None-clause-lines c = last_line c.args.bytes.now (search rules) c.in-None.ensures
