use Rattle.std.proofs.Common.{◌≡◌, ◌<◌, ◌≤◌, length, true, false, subst, sym, ◌∙◌, arith}
use Rattle.std.specs.Prelude.{IsTrue}
use Rattle.core_data.specs.declared.values.WaitEntry.{WaitEntry}
use Rattle.core_gives.proofs.WaitsLemmas.{once-open, once-close, once-past}
use Rattle.step_gives.proofs.waits.has_each_once.Goals as goal

pub loop-i-init : goal.loop-i-init
loop-i-init c = record { rest = λ h. h; all = λ h. h }

pub returns-then-has_task : goal.returns-then-has_task
returns-then-has_task c =
    let d : WaitEntry = record { t = 0; exclusive = false } in (
      λ h. absurd (grind (arith, h)),
      λ once.
          let other = (once-open c.args.entries.now c.loop-i.i d c.loop-i-test.true (c.loop-i.invariant.rest once)).0 in
          absurd (cc (other, c.has_task.ensures, c.if-has_task.true)),
    )

pub loop-i-preserved : goal.loop-i-preserved
loop-i-preserved c =
    let d : WaitEntry = record { t = 0; exclusive = false } in
    let entries = c.args.entries.now in
    record {
      rest = λ once. (once-open entries c.loop-i.i d c.loop-i-test.true (c.loop-i.invariant.rest once)).1;
      all = λ rest. c.loop-i.invariant.all (once-close entries c.loop-i.i d c.loop-i-test.true (sym c.has_task.ensures ∙ c.if-has_task.false) rest);
    }

pub returns : goal.returns
returns c =
    let end : length c.args.entries.now ≤ c.loop-i.i = omega arith in
    (λ h. c.loop-i.invariant.all (once-past c.args.entries.now c.loop-i.i end), λ h. grind arith)
