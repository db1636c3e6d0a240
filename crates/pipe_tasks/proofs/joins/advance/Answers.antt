use Rattle.pipe_tasks.proofs.JoinLaws.{advances-first, advances-second}
use Rattle.pipe_tasks.proofs.joins.advance.Goals as goal

pub returns-in_ok-step_plan-in-Some : goal.returns-in_ok-step_plan-in-Some
returns-in_ok-step_plan-in-Some c = advances-first c.args.plan.now c.step_plan.new.plan c.args.first.now c.args.second.now c.args.out.now c.step_plan.new.out c.in-Some.line c.pop.new.self
    c.if-wants_first.ensures c.requires c.in-Some.ensures c.in_ok-step_plan-in-Some.ensures.plan c.in_ok-step_plan-in-Some.ensures.lines

pub returns-in_ok-step_plan-in-Some-pop : goal.returns-in_ok-step_plan-in-Some-pop
returns-in_ok-step_plan-in-Some-pop c = advances-second c.args.plan.now c.step_plan-in-Some-pop.new.plan c.args.first.now c.args.second.now c.args.out.now c.step_plan-in-Some-pop.new.out
    c.in-Some-pop.line c.pop-else-wants_first.new.self
    c.if-wants_first.ensures c.requires c.in-Some-pop.ensures c.in_ok-step_plan-in-Some-pop.ensures.plan c.in_ok-step_plan-in-Some-pop.ensures.lines
