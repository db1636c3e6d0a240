use Rattle.journal_rules.proofs.rises.rises_in_journal.Goals as goal

pub returns-then-do_changes_rise : goal.returns-then-do_changes_rise
returns-then-do_changes_rise c = (
  λ yes. record { changes = c.do_changes_rise.ensures.0 c.if-do_changes_rise.true; runs = c.do_runs_rise.ensures.0 yes },
  λ h. c.do_runs_rise.ensures.1 h.runs,
)

pub returns-else-do_changes_rise : goal.returns-else-do_changes_rise
returns-else-do_changes_rise c = (
  λ z. absurd (cc),
  λ h. let yes = c.do_changes_rise.ensures.1 h.changes in let not = c.if-do_changes_rise.false in cc,
)
