use Rattle.journal_rules.proofs.Words.{both, died_words}
use Rattle.journal_rules.proofs.asked.is_end.Goals as goal

pub returns : goal.returns
returns c = λ j knows. both c.is_told.ensures (died_words j c.args.facts.now knows c.args.t c.args.m)
