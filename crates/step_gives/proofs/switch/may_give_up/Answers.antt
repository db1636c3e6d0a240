use Rattle.std.proofs.Common.{◌≡◌, arith, ◌≤◌, true, false}
use Rattle.core_data.specs.Columns.{columns}
use Rattle.step_gives.proofs.Rows.{body-past}
use Rattle.step_gives.proofs.switch.may_give_up.Goals as goal

pub returns-then-t-tasks : goal.returns-then-t-tasks
returns-then-t-tasks c =
    let past : (columns c.args.core.now).tasks ≤ c.args.t = omega arith in
    let out = body-past c.args.core.now c.args.t past in
    (λ h. absurd (grind (arith, h)), λ may. let home : (columns c.args.core.now).body c.args.t ≡ true = may.0 in absurd (cc (out, home)))
