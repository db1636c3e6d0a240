use Rattle.std.proofs.Common.{sym, subst, ◌↔◌, ℕ, Option}
use Rattle.std.specs.Prelude.{IsTrue}
use Rattle.handoff_data.specs.Rules.{MaskAllows}
use Rattle.journal_rules.proofs.masks.mask_allows.Goals as goal

pub returns-in-Some : goal.returns-in-Some
returns-in-Some c = λ j knows members cpus.
    subst (λ (o : Option ℕ). IsTrue c.mask_has.result ↔ MaskAllows j c.args.t c.args.r o) (sym c.in-Some.is) (c.mask_has.ensures j members cpus)

pub returns-in-None : goal.returns-in-None
returns-in-None c = λ j knows members cpus.
    subst (λ (o : Option ℕ). IsTrue c.has_mask.result ↔ MaskAllows j c.args.t c.args.r o) (sym c.in-None.is) (c.has_mask.ensures j knows)
