use Rattle.journal_rules.proofs.Words.{both, listed_words}
use Rattle.journal_rules.proofs.asked.is_listed_to.Goals as goal

pub returns : goal.returns
returns c = λ j knows. both c.is_told_on.ensures (listed_words j c.args.facts.now knows c.args.t c.args.m c.args.c)
