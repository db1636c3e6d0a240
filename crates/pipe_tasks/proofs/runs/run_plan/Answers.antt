use Rattle.std.proofs.Common.{◌+◌, ◌-◌, arith, subst}
use Rattle.pipe_tasks.proofs.RunLaws.{Turning, Turning-some, Turning-steps}
use Rattle.pipe_tasks.proofs.runs.run_plan.Goals as goal

pub unreachable-requires : goal.unreachable-requires
unreachable-requires c = Turning-some c.args.plan c.args.lines c.loop-taken.plan (c.len-count.result - c.loop-taken._taken)
    (subst (λ z. Turning c.args.plan c.args.lines c.loop-taken.plan z (c.len-count.result - c.loop-taken._taken)) c.in_default.ensures.0 c.loop-taken.invariant) (omega arith)

pub loop-taken-preserved : goal.loop-taken-preserved
loop-taken-preserved c = Turning-steps c.args.plan c.args.lines c.loop-taken.plan c.step_plan.new.plan c.in-Some.line c.loop-taken.lines c.pop.new.self c.step_plan.new.out
    (c.len-count.result - c.loop-taken._taken) (c.len-count.result - (c.loop-taken._taken + 1)) c.loop-taken.invariant (omega arith) c.in-Some.ensures c.in_ok-step_plan.ensures.plan
    c.in_ok-step_plan.ensures.lines
