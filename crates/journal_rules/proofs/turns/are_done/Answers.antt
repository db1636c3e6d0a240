use Rattle.std.proofs.Common.{arith, refl, ap, ◌∙◌, Some}
use Rattle.std.proofs.lemmas.List.Elements.{Contains-get_or}
use Rattle.std.proofs.lemmas.Option.{slice_get-get_or}
use Rattle.handoff_data.specs.declared.entry.Entry.{Entry}
use Rattle.handoff_data.specs.Positions.{Stands}
use Rattle.journal_facts.specs.declared.fact.Fact.{Fact}
use Rattle.journal_rules.specs.Turns.{IsTakenBefore}
use Rattle.journal_rules.proofs.Turning.{up_to_next}
use Rattle.journal_rules.proofs.turns.are_done.Goals as goal

pub is_done-requires-clause-stands : goal.is_done-requires-clause-stands
is_done-requires-clause-stands c = c.requires.stand _ (Contains-get_or c.args.dues.now c.loop-due.due-index _ c.loop-due-test.true)

pub loop-due-preserved : goal.loop-due-preserved
loop-due-preserved c =
    let j = c.args.journals.now in
    up_to_next (λ (f : Fact) (e : Entry). Stands j f.seat f.index e → IsTakenBefore j c.args.seat c.args.index e) c.args.dues.now c.loop-due.due-index _ c.loop-due-test.true
    c.loop-due.invariant (c.is_done.ensures.0 c.if-not-is_done.false)

pub returns : goal.returns
returns c = (
  λ _ f e has there.
      let at = slice_get-get_or c.args.dues.now has.0 f has.1 in
      c.loop-due.invariant has.0 f e (omega (arith, has.1)) (at ∙ ap (λ (x : Fact). Some x) has.2) there,
  λ _. refl,
)
