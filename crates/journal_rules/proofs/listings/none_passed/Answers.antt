use Rattle.std.proofs.Common.{◌∙◌, ap, arith, refl, Some}
use Rattle.std.proofs.lemmas.List.Elements.{Contains-get_or}
use Rattle.std.proofs.lemmas.Option.{slice_get-get_or}
use Rattle.journal_facts.specs.declared.fact.Fact.{Fact}
use Rattle.journal_rules.proofs.Words.{never}
use Rattle.journal_rules.specs.Marks.{IsPassed}
use Rattle.journal_rules.proofs.Marking.{still_none}
use Rattle.journal_rules.proofs.listings.none_passed.Goals as goal

pub bounds-marks-listing : goal.bounds-marks-listing
bounds-marks-listing c = c.requires _ (Contains-get_or c.args.listings.now c.loop-listing.listing-index _ c.loop-listing-test.true)

pub returns-then-passes : goal.returns-then-passes
returns-then-passes c = λ j here are.
    let has = Contains-get_or c.args.listings.now c.loop-listing.listing-index _ c.loop-listing-test.true in
    let mark = are.each _ _ (slice_get-get_or c.args.marks.now _ _ (c.requires _ has)) in
    (λ z. absurd (cc), λ h. absurd (h _ has ((c.passes.ensures j here _ mark).0 c.if-passes.true)))

pub loop-listing-preserved : goal.loop-listing-preserved
loop-listing-preserved c = λ j here are.
    let has = Contains-get_or c.args.listings.now c.loop-listing.listing-index _ c.loop-listing-test.true in
    let mark = are.each _ _ (slice_get-get_or c.args.marks.now _ _ (c.requires _ has)) in
    still_none (λ (f : Fact). IsPassed j c.args.seat here f.seat f.index) c.args.listings.now c.loop-listing.listing-index _ c.loop-listing-test.true
    (c.loop-listing.invariant j here are) (λ p. never _ c.if-passes.false ((c.passes.ensures j here _ mark).1 p))

pub returns : goal.returns
returns c = λ j here are. (
  λ _ f has. c.loop-listing.invariant j here are has.0 f (omega (arith, has.1))
      (slice_get-get_or c.args.listings.now has.0 f has.1 ∙ ap (λ (x : Fact). Some x) has.2),
  λ _. refl,
)
