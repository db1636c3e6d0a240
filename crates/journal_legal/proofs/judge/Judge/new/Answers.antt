use Rattle.std.proofs.Common.{◌≡◌, ◌∙◌, ◌↔◌, ap, subst, List}
use Rattle.std.specs.Prelude.{Contains}
use Rattle.handoff_data.specs.declared.entry.Entry.{Entry}
use Rattle.handoff_data.specs.History.{History}
use Rattle.journal_facts.specs.Facts.{IsTold}
use Rattle.journal_facts.specs.Members.{IsMember}
use Rattle.journal_legal.proofs.judge.Judge.new.Goals as goal

pub returns : goal.returns
returns c =
    let j = c.args.journals.now in
    let told : c.as_slice.result.now ≡ j.seats = c.as_slice.ensures.value ∙ ap (λ (h : History). h.seats) c.journals.view_is in
    let masked : c.as_slice-2.result.now ≡ j.seats = c.as_slice-2.ensures.value ∙ ap (λ (h : History). h.seats) c.journals.view_is in
    let facts = c.in_ok-facts_of.field-0 in
    let members = c.in_ok-members_of.field-0 in
    record {
      few = c.requires;
      facts = record {
        told = λ f. subst (λ (xs : List (List Entry)). Contains facts f ↔ IsTold xs f) told (c.in_ok-facts_of.ensures.told f);
      };
      members = record {
        told = λ f. subst (λ (xs : List (List Entry)). Contains members f ↔ IsMember xs f) masked (c.in_ok-members_of.ensures.told f);
      };
      marks = c.in_ok-no_marks.ensures;
    }
