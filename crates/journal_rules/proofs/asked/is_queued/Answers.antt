use Rattle.journal_rules.proofs.Words.{both, queued_words}
use Rattle.journal_rules.proofs.asked.is_queued.Goals as goal

pub returns : goal.returns
returns c = λ j knows. both c.is_told_on.ensures (queued_words j c.args.facts.now knows c.args.t c.args.m c.args.c)
