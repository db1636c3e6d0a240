use Rattle.std.proofs.Common.{◌≡◌, inl, subst, arith, ◌≤◌}
use Rattle.core_data.specs.Columns.{columns}
use Rattle.step_gives.proofs.Rows.{state-past}
use Rattle.step_gives.proofs.queues.is_runnable.Goals as goal

pub returns-then-t-tasks : goal.returns-then-t-tasks
returns-then-t-tasks c =
    let past : (columns c.args.core.now).tasks ≤ c.args.t = omega arith in
    (λ h. inl (state-past c.args.core.now c.args.t past), λ h. grind arith)
