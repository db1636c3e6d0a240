use Rattle.journal_rules.proofs.Words.{both, stood_words}
use Rattle.journal_rules.proofs.asked.is_stood_from.Goals as goal

pub returns : goal.returns
returns c = λ j knows. both c.is_told_from.ensures (stood_words j c.args.facts.now knows c.args.t c.args.r)
