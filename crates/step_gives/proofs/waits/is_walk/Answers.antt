use Rattle.std.proofs.Common.{◌≡◌, ◌<◌, ◌≤◌, ◌&&◌, ◌+◌, Bool, length, drop, true, false, refl, ap, sym, ◌∙◌, arith}
use Rattle.core_data.specs.Columns.{columns}
use Rattle.core_data.specs.declared.values.WaitEntry.{WaitEntry}
use Rattle.core_gives.specs.Waits.{is_walk}
use Rattle.core_gives.proofs.WaitsLemmas.{walk-at, walk-past}
use Rattle.step_gives.proofs.waits.is_walk.Goals as goal

pub loop-x-init : goal.loop-x-init
loop-x-init c = refl

pub returns-then-not-passed : goal.returns-then-not-passed
returns-then-not-passed c =
    let d : WaitEntry = record { t = 0; exclusive = false } in
    let passed = (columns c.args.core.now).has_passed c.args.s c.args.k in
    let here = walk-at passed c.args.taken.now c.loop-x.x-index d c.loop-x-test.true in
    let rest = is_walk passed (drop (c.loop-x.x-index + 1) c.args.taken.now) in
    let not = sym c.passed.ensures ∙ c.if-not-passed.true in
    sym (c.loop-x.invariant ∙ here ∙ ap (λ (b : Bool). b && rest) not)

pub loop-x-preserved : goal.loop-x-preserved
loop-x-preserved c =
    let d : WaitEntry = record { t = 0; exclusive = false } in
    let passed = (columns c.args.core.now).has_passed c.args.s c.args.k in
    let here = walk-at passed c.args.taken.now c.loop-x.x-index d c.loop-x-test.true in
    let rest = is_walk passed (drop (c.loop-x.x-index + 1) c.args.taken.now) in
    let yes = sym c.passed.ensures ∙ c.if-not-passed.false in
    c.loop-x.invariant ∙ here ∙ ap (λ (b : Bool). b && rest) yes

pub returns : goal.returns
returns c =
    let passed = (columns c.args.core.now).has_passed c.args.s c.args.k in
    let end : length c.args.taken.now ≤ c.loop-x.x-index = omega arith in
    sym (c.loop-x.invariant ∙ walk-past passed c.args.taken.now c.loop-x.x-index end)
