use Rattle.std.proofs.Common.{sym, subst, ◌↔◌, ℕ, Option}
use Rattle.std.specs.Prelude.{IsTrue}
use Rattle.handoff_data.specs.Rules.{StoodAt}
use Rattle.journal_rules.proofs.masks.stood_at.Goals as goal

pub returns-in-Some : goal.returns-in-Some
returns-in-Some c = λ j knows.
    subst (λ (o : Option ℕ). IsTrue c.left_on.result ↔ StoodAt j c.args.t c.args.m o) (sym c.in-Some.is) (c.left_on.ensures j knows)

pub returns-in-None : goal.returns-in-None
returns-in-None c = λ j knows.
    subst (λ (o : Option ℕ). IsTrue c.left_off.result ↔ StoodAt j c.args.t c.args.m o) (sym c.in-None.is) (c.left_off.ensures j knows)
