use Rattle.journal_rules.proofs.Words.{both}
use Rattle.journal_rules.proofs.Turning.{taken_words}
use Rattle.journal_rules.proofs.turns.is_queued_after.Goals as goal

pub returns : goal.returns
returns c = λ j knows. both c.is_told_before.ensures (taken_words j c.args.facts.now knows c.args.t c.args.m c.args.c c.args.seat c.args.index)
