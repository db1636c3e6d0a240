use Rattle.std.proofs.Common.{arith}
use Rattle.journal_rules.proofs.runs.may_finish.Goals as goal

pub returns : goal.returns
returns c = λ j knows. let e = c.is_picked_before.ensures j knows in (λ yes. (c.if-n-ne0.false, omega arith, e.0 yes), λ h. e.1 h.2)
