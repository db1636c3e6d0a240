use Rattle.journal_rules.proofs.Words.{both, slept_words}
use Rattle.journal_rules.proofs.asked.is_sleep.Goals as goal

pub returns : goal.returns
returns c = λ j knows. both c.is_told.ensures (slept_words j c.args.facts.now knows c.args.t c.args.m)
