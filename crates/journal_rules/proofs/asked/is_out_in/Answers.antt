use Rattle.journal_rules.proofs.Words.{both, left_words}
use Rattle.journal_rules.proofs.asked.is_out_in.Goals as goal

pub returns : goal.returns
returns c = λ j knows. both c.is_told_before.ensures (left_words j c.args.facts.now knows c.args.t c.args.m c.args.seat)
