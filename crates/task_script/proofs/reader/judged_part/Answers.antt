use Rattle.std.proofs.Common.{sym, arith}
use Rattle.std.proofs.lemmas.List.{length-take, take_all}
use Rattle.task_script.proofs.reader.judged_part.Goals as goal

pub returns-then-bytes-gt-SCRIPT_LIMIT-clause-short : goal.returns-then-bytes-gt-SCRIPT_LIMIT-clause-short
returns-then-bytes-gt-SCRIPT_LIMIT-clause-short c = omega (arith, length-take 16777217 c.args.bytes.now)

pub returns-else-bytes-gt-SCRIPT_LIMIT-clause-value : goal.returns-else-bytes-gt-SCRIPT_LIMIT-clause-value
returns-else-bytes-gt-SCRIPT_LIMIT-clause-value c = sym (take_all 16777217 c.args.bytes.now (omega arith))
