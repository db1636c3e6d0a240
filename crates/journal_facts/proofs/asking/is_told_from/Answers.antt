use Rattle.journal_facts.proofs.Fronts.{has_from, up_told_from}
use Rattle.journal_facts.proofs.asking.is_told_from.Goals as goal

pub returns-in-None : goal.returns-in-None
returns-in-None c = (λ e. absurd (cc), λ t. absurd (c.in-None.ensures.none _ t.told (up_told_from _ c.args.kind c.args.subject c.args.number t)))

pub returns-else-same_kind : goal.returns-else-same_kind
returns-else-same_kind c = (
  λ e. let not = c.if-same_kind.false in absurd (cc),
  λ t. c.same_kind.ensures.1 (has_from c.args.facts.now c.args.kind c.args.subject c.args.number c.in-Some.fact c.in-Some.ensures.found.1 c.in-Some.ensures.least t).0,
)
