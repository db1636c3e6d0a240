use Rattle.std.proofs.Common.{◌≡◌, ◌<◌, ◌≤◌, length, true, false, subst, arith}
use Rattle.std.specs.Prelude.{IsTrue}
use Rattle.core_data.specs.Entries.{has_entry}
use Rattle.core_data.specs.Columns.{columns}
use Rattle.core_data.specs.declared.values.WaitEntry.{WaitEntry}
use Rattle.core_gives.proofs.WaitsLemmas.{each-entry, entry-at, more-entries}
use Rattle.step_gives.proofs.waits.has_tasks_of.Goals as goal

pub loop-x-init : goal.loop-x-init
loop-x-init c = λ i x lt at. absurd (omega (arith, lt))

pub returns-then-not-is_of_core : goal.returns-then-not-is_of_core
returns-then-not-is_of_core c =
    let d : WaitEntry = record { t = 0; exclusive = false } in (
      λ h. absurd (grind (arith, h)),
      λ all. subst (λ b. IsTrue b) c.if-not-is_of_core.true (c.is_of_core.ensures.1 (all _ (entry-at c.args.entries.now c.loop-x.x-index d c.loop-x-test.true))),
    )

pub loop-x-preserved : goal.loop-x-preserved
loop-x-preserved c =
    let d : WaitEntry = record { t = 0; exclusive = false } in
    more-entries c.args.entries.now (λ x. (x.t < (columns c.args.core.now).tasks)) c.loop-x.x-index d c.loop-x-test.true c.loop-x.invariant (c.is_of_core.ensures.0 c.if-not-is_of_core.false)

pub returns : goal.returns
returns c =
    let end : length c.args.entries.now ≤ c.loop-x.x-index = omega arith in (
      λ h. each-entry c.args.entries.now (λ x. (x.t < (columns c.args.core.now).tasks)) (λ i x lt at. c.loop-x.invariant i x (omega (arith, lt, end)) at),
      λ h. grind arith,
    )
