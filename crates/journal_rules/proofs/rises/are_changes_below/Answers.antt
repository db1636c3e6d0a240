use Rattle.std.proofs.Common.{subst, ◌≡◌, ◌<◌, ◌↔◌, ℕ, Option, Some}
use Rattle.std.specs.Prelude.{IsTrue}
use Rattle.handoff_data.specs.Numbers.{change_of}
use Rattle.journal_rules.proofs.Rising.{all_below}
use Rattle.journal_rules.proofs.rises.are_changes_below.Goals as goal

pub returns-in-Some : goal.returns-in-Some
returns-in-Some c =
    let last = c.in-Some.ensures.last in
    let words = all_below c.args.journals.now change_of c.args.seat c.args.index c.args.t c.in-Some.last last
    (λ n is. (c.requires.rose last.last c.in-Some.last last.below last.stands).changes c.args.t n is) c.args.m in
    let asked = subst (λ (o : Option (ℕ × ℕ)). IsTrue c.is_below.result ↔ ((t n : ℕ) × (o ≡ Some (t, n)) × (n < c.args.m))) c.change_of.ensures c.is_below.ensures in
    (λ yes. words.0 (asked.0 yes), λ h. asked.1 (words.1 h))
