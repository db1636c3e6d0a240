use Rattle.journal_rules.proofs.Words.{both, died_on_words}
use Rattle.journal_rules.proofs.asked.is_end_on.Goals as goal

pub returns : goal.returns
returns c = λ j knows. both c.is_told_on.ensures (died_on_words j c.args.facts.now knows c.args.t c.args.m c.args.c)
