use Rattle.journal_rules.proofs.Words.{both, picked_words}
use Rattle.journal_rules.proofs.asked.is_picked_before.Goals as goal

pub returns : goal.returns
returns c = λ j knows. both c.is_told_before.ensures (picked_words j c.args.facts.now knows c.args.t c.args.n c.args.c c.args.seat c.args.index)
