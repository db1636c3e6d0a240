use Rattle.std.proofs.Common.{refl}
use Rattle.handoff_data.specs.Numbers.{change_of}
use Rattle.journal_facts.specs.declared.fact.Kind.TheVariants as kind
use Rattle.journal_rules.proofs.Latest.{none_gives, is_highest, no_highest}
use Rattle.journal_rules.proofs.lasts.highest_change.Goals as goal

pub returns-in_err-last-clause-none : goal.returns-in_err-last-clause-none
returns-in_err-last-clause-none c = λ j knows.
    none_gives c.from_residual.result (no_highest j c.args.facts.now knows change_of kind.Change (λ s i e. refl) c.args.t c.in_err-last.ensures.none)

pub returns-clause-highest : goal.returns-clause-highest
returns-clause-highest c = λ j knows.
    is_highest j c.args.facts.now knows change_of kind.Change (λ s i e. refl) c.args.t c.in_ok-last.last c.in_ok-last.ensures.highest
