use Rattle.journal_rules.proofs.Words.{both, masked_before_words}
use Rattle.journal_rules.proofs.asked.is_masked_before.Goals as goal

pub returns : goal.returns
returns c = λ j knows. both c.is_told_before.ensures (masked_before_words j c.args.facts.now knows c.args.t c.args.r c.args.seat c.args.index)
