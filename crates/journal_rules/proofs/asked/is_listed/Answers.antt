use Rattle.journal_rules.proofs.Words.{both, listing_words}
use Rattle.journal_rules.proofs.asked.is_listed.Goals as goal

pub returns : goal.returns
returns c = λ j knows. both c.is_told.ensures (listing_words j c.args.facts.now knows c.args.t c.args.m)
