use Rattle.pipe_tasks.proofs.RunLaws.{Making-steps, Making-fewer, Making-ends}
use Rattle.pipe_tasks.proofs.runs.make_all.Goals as goal

pub loop-out-preserved : goal.loop-out-preserved
loop-out-preserved c = Making-steps c.args.plan c.loop-out.plan c.make_line.new.plan c.in-Some.line c.loop-out.out c.push.new.self c.loop-out.invariant (rw c.in-Some.is at c.in_ok-line.ensures.line)
    c.in_ok-push.ensures.ok

pub loop-out-smaller : goal.loop-out-smaller
loop-out-smaller c = Making-fewer c.args.plan c.loop-out.plan c.make_line.new.plan c.in-Some.line c.loop-out.out c.loop-out.invariant (rw c.in-Some.is at c.in_ok-line.ensures.line)

pub returns : goal.returns
returns c = Making-ends c.args.plan c.loop-out.plan c.loop-out.out c.loop-out.invariant (rw c.in_default.is at c.in_ok-line.ensures.line)
