use Rattle.journal_rules.specs.Order.{RoseBefore}
use Rattle.journal_rules.proofs.tests.first_falling_of.Given as goal

abbrev pub invariant-loop-index : goal.invariant-loop-index
invariant-loop-index l = RoseBefore l.fn.journals 0 l.index
