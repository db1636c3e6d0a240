use Rattle.journal_rules.proofs.Words.{both, wake_words}
use Rattle.journal_rules.proofs.asked.is_woken_before.Goals as goal

pub returns : goal.returns
returns c = λ j knows. both c.is_told_before.ensures (wake_words j c.args.facts.now knows c.args.t c.args.m c.args.seat c.args.index)
