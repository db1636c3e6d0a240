use Rattle.std.proofs.Common.{◌≡◌, ◌<◌, ◌≤◌, length, true, false, subst, arith}
use Rattle.std.specs.Prelude.{IsTrue}
use Rattle.core_data.specs.Entries.{has_entry}
use Rattle.core_data.specs.Columns.{columns}
use Rattle.core_data.specs.declared.values.WaitEntry.{WaitEntry}
use Rattle.core_gives.proofs.WaitsLemmas.{each-entry, entry-at, more-entries}
use Rattle.core_gives.specs.Waits.{IsTakenOut}
use Rattle.step_gives.proofs.waits.are_taken_out.Goals as goal

pub loop-x-init : goal.loop-x-init
loop-x-init c = λ i x lt at. absurd (omega (arith, lt))

pub returns-then-not-is_given_or_taken_out : goal.returns-then-not-is_given_or_taken_out
returns-then-not-is_given_or_taken_out c =
    let d : WaitEntry = record { t = 0; exclusive = false } in (
      λ h. absurd (grind (arith, h)),
      λ all. subst (λ b. IsTrue b) c.if-not-is_given_or_taken_out.true (c.is_given_or_taken_out.ensures.1 (all _ (entry-at c.args.taken.now c.loop-x.x-index d c.loop-x-test.true))),
    )

pub loop-x-preserved : goal.loop-x-preserved
loop-x-preserved c =
    let d : WaitEntry = record { t = 0; exclusive = false } in
    more-entries c.args.taken.now (λ x. (has_entry c.args.given.now x ≡ false → IsTakenOut (columns c.args.core.now) c.args.s c.args.k x)) c.loop-x.x-index d c.loop-x-test.true c.loop-x.invariant
    (c.is_given_or_taken_out.ensures.0 c.if-not-is_given_or_taken_out.false)

pub returns : goal.returns
returns c =
    let end : length c.args.taken.now ≤ c.loop-x.x-index = omega arith in (
      λ h. each-entry c.args.taken.now (λ x. (has_entry c.args.given.now x ≡ false → IsTakenOut (columns c.args.core.now) c.args.s c.args.k x))
          (λ i x lt at. c.loop-x.invariant i x (omega (arith, lt, end)) at),
      λ h. grind arith,
    )
