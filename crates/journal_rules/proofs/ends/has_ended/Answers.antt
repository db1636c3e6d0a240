use Rattle.journal_rules.proofs.Words.{never}
use Rattle.journal_rules.proofs.ends.has_ended.Goals as goal

pub returns-then-dies_last : goal.returns-then-dies_last
returns-then-dies_last c =
    let d = c.dies_last.ensures c.args.journals.now c.requires.knows in
    let f = c.finishes_last.ensures c.args.journals.now c.requires.knows in
    (λ yes. record { dies = d.0 c.if-dies_last.true; finishes = f.0 yes }, λ h. f.1 h.finishes)

pub returns-else-dies_last : goal.returns-else-dies_last
returns-else-dies_last c =
    let d = c.dies_last.ensures c.args.journals.now c.requires.knows in
    (λ yes. absurd (never _ c.if-dies_last.false yes), λ h. d.1 h.dies)
