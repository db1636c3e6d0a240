use Rattle.std.proofs.Common.{sym, ◌∙◌, refl}
use Rattle.journal_rules.proofs.Identities.{repeats_none, repeats_nothing}
use Rattle.journal_rules.proofs.numbers.not_repeated.Goals as goal

pub returns-in-Some : goal.returns-in-Some
returns-in-Some c =
    repeats_none c.args.journals.now c.args.facts.now c.requires c.args.entry c.in-Some.key c.args.seat c.args.index c.is_told_earlier.result
    (sym c.identity_key.ensures ∙ c.in-Some.is) c.is_told_earlier.ensures

pub returns-in-None : goal.returns-in-None
returns-in-None c =
    (λ _. repeats_nothing c.args.journals.now c.args.facts.now c.requires c.args.entry c.args.seat c.args.index (sym c.identity_key.ensures ∙ c.in-None.is), λ _. refl)
