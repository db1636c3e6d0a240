use Rattle.std.proofs.Common.{◌≡◌, ◌↔◌, List, ap, ◌∙◌, subst}
use Rattle.std.specs.Prelude.{Contains}
use Rattle.handoff_data.specs.declared.entry.Entry.{Entry}
use Rattle.handoff_data.specs.History.{History}
use Rattle.journal_facts.specs.declared.fact.Fact.{Fact}
use Rattle.journal_facts.specs.Facts.{IsTold}
use Rattle.journal_rules.proofs.tests.facts_about.Goals as goal

pub returns : goal.returns
returns c =
    let seats : c.as_slice.result.now ≡ c.args.journals.now.seats
    = c.as_slice.ensures.value ∙ ap (λ (y : History). y.seats) c.journals.view_is in
    record {
      told = subst (λ (y : List (List Entry)). (f : Fact) → Contains c.in_ok-facts.facts f ↔ IsTold y f) seats c.in_ok-facts.ensures.told;
    }
