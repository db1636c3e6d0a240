use Rattle.std.proofs.Common.{ap, ◌∙◌}
use Rattle.std.specs.Ordering.{is_lt}
use Rattle.journal_facts.proofs.Order.{fact_same}
use Rattle.journal_facts.proofs.searching.comes_before.Goals as goal

pub returns : goal.returns
returns c = c.is_lt.ensures ∙ ap is_lt (c.cmp.ensures ∙ fact_same c.args.fact c.args.key)
