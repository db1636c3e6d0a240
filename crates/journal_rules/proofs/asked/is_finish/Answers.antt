use Rattle.journal_rules.proofs.Words.{both, finished_words}
use Rattle.journal_rules.proofs.asked.is_finish.Goals as goal

pub returns : goal.returns
returns c = λ j knows. both c.is_told.ensures (finished_words j c.args.facts.now knows c.args.t c.args.n)
