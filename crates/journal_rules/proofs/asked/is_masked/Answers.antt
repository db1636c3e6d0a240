use Rattle.journal_rules.proofs.Words.{both, mask_words}
use Rattle.journal_rules.proofs.asked.is_masked.Goals as goal

pub returns : goal.returns
returns c = λ j knows. both c.is_told.ensures (mask_words j c.args.facts.now knows c.args.t c.args.r)
