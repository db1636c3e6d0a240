use Rattle.std.proofs.Common.{◌≡◌, ◌<◌, ◌≤◌, length, true, false, subst, arith}
use Rattle.std.specs.Prelude.{IsTrue}
use Rattle.core_data.specs.Entries.{has_entry}
use Rattle.core_data.specs.Columns.{columns}
use Rattle.core_data.specs.declared.values.WaitEntry.{WaitEntry}
use Rattle.core_gives.proofs.WaitsLemmas.{each-entry, entry-at, more-entries}
use Rattle.core_gives.specs.Waits.{IsPutIn}
use Rattle.step_gives.proofs.waits.are_put_in.Goals as goal

pub loop-x-init : goal.loop-x-init
loop-x-init c = λ i x lt at. absurd (omega (arith, lt))

pub returns-then-not-was_taken_or_put_in : goal.returns-then-not-was_taken_or_put_in
returns-then-not-was_taken_or_put_in c =
    let d : WaitEntry = record { t = 0; exclusive = false } in (
      λ h. absurd (grind (arith, h)),
      λ all. subst (λ b. IsTrue b) c.if-not-was_taken_or_put_in.true (c.was_taken_or_put_in.ensures.1 (all _ (entry-at c.args.given.now c.loop-x.x-index d c.loop-x-test.true))),
    )

pub loop-x-preserved : goal.loop-x-preserved
loop-x-preserved c =
    let d : WaitEntry = record { t = 0; exclusive = false } in
    more-entries c.args.given.now (λ x. (has_entry c.args.taken.now x ≡ false → IsPutIn (columns c.args.core.now) c.args.s c.args.k x)) c.loop-x.x-index d c.loop-x-test.true c.loop-x.invariant
    (c.was_taken_or_put_in.ensures.0 c.if-not-was_taken_or_put_in.false)

pub returns : goal.returns
returns c =
    let end : length c.args.given.now ≤ c.loop-x.x-index = omega arith in (
      λ h. each-entry c.args.given.now (λ x. (has_entry c.args.taken.now x ≡ false → IsPutIn (columns c.args.core.now) c.args.s c.args.k x))
          (λ i x lt at. c.loop-x.invariant i x (omega (arith, lt, end)) at),
      λ h. grind arith,
    )
