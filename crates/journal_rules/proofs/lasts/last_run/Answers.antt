use Rattle.std.proofs.Common.{refl}
use Rattle.handoff_data.specs.Numbers.{run_of}
use Rattle.journal_facts.specs.declared.fact.Kind.TheVariants as kind
use Rattle.journal_rules.proofs.Latest.{none_gives, is_last, some_last, no_last}
use Rattle.journal_rules.proofs.lasts.last_run.Goals as goal

pub returns-in_err-last-clause-none : goal.returns-in_err-last-clause-none
returns-in_err-last-clause-none c =
    none_gives c.from_residual.result (no_last c.args.journals.now c.args.facts.now c.requires run_of kind.RunIn (λ s i e. refl) c.args.t c.args.seat c.args.index
    c.in_err-last.ensures.none)

pub returns-clause-last : goal.returns-clause-last
returns-clause-last c =
    is_last c.args.journals.now c.args.facts.now c.requires run_of kind.RunIn (λ s i e. refl) c.args.t c.args.seat c.args.index c.in_ok-last.last
    c.in_ok-last.ensures.last c.entry_at.result c.entry_at.ensures

pub returns-clause-none : goal.returns-clause-none
returns-clause-none c =
    some_last c.args.journals.now c.args.facts.now c.requires run_of kind.RunIn (λ s i e. refl) c.args.t c.args.seat c.args.index c.in_ok-last.last
    c.in_ok-last.ensures.last c.entry_at.result c.entry_at.ensures
