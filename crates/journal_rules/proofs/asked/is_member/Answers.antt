use Rattle.journal_rules.proofs.Words.{both, member_words}
use Rattle.journal_rules.proofs.asked.is_member.Goals as goal

pub returns : goal.returns
returns c = λ j knows. both c.is_told_on.ensures (member_words j c.args.members.now knows c.args.t c.args.r c.args.c)
