use Rattle.std.proofs.Common.{sym, ◌∙◌}
use Rattle.journal_rules.proofs.Rising.{rose_next}
use Rattle.journal_rules.proofs.tests.first_falling_of.Goals as goal

pub loop-index-preserved : goal.loop-index-preserved
loop-index-preserved c =
    rose_next c.args.journals.now 0 c.loop-index.index c.in_ok-entry.entry c.loop-index.invariant (sym c.entry_at.ensures ∙ c.in_ok-entry.was)
    (c.rises_in_journal.ensures.0 c.if-not-rises_in_journal.false)
