use Rattle.journal_facts.proofs.Fronts.{has_before, up_told_before}
use Rattle.journal_facts.proofs.asking.is_told_before.Goals as goal

pub returns-in-None : goal.returns-in-None
returns-in-None c = (λ e. absurd (cc), λ t. absurd (c.in-None.ensures.none _ t.told (up_told_before _ c.args.kind c.args.subject c.args.number c.args.cpu c.args.seat c.args.index t)))

pub returns-else-is_on : goal.returns-else-is_on
returns-else-is_on c = (
  λ e. let not = c.if-is_on.false in absurd (cc),
  λ t.
      let h = has_before c.args.facts.now c.args.kind c.args.subject c.args.number c.in-Some.fact c.args.cpu c.args.seat c.args.index
      c.in-Some.ensures.found.1 c.in-Some.ensures.least t in
      c.is_on.ensures.1 (record { front = h.0; cpu_is = h.1 }),
)
