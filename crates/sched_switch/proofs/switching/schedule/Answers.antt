use Rattle.std.proofs.Common.{sym, subst, inl}
use Rattle.sched_switch.proofs.SwitchLaws.{left_then, kept_lives, died_then}
use Rattle.sched_switch.proofs.switching.schedule.Goals as goal
use Rattle.sched_switch.specs.Switches.{DidSwitch}
use Rattle.sched_switch.specs.declared.answer.Next.{Next}
use Rattle.sched_switch.specs.declared.answer.Switch.TheVariants as switch

pub returns-in-Some-clause-did : goal.returns-in-Some-clause-did
returns-in-Some-clause-did g c =
    subst (λ (n : Next). DidSwitch n c.args.pass.now c.make_way.new.pass (switch.Running c.in-Some.t)) (sym c.in-Some.ensures.stays.0)
    (inl c.in-Some.ensures.stays.2)

pub returns-in-Some-clause-dies : goal.returns-in-Some-clause-dies
returns-in-Some-clause-dies g c = λ t current stored.
    absurd (kept_lives t c.in-Some.t c.args.pass.now c.make_way.new.pass c.in-Some.ensures.stays.2 current stored)

pub returns-in-None-clause-did : goal.returns-in-None-clause-did
returns-in-None-clause-did g c =
    left_then c.args.next c.args.pass.now c.make_way.new.pass c.switch_in.new.pass c.switch_in.result
    c.in-None.ensures.left c.switch_in.ensures.did

pub returns-in-None-clause-dies : goal.returns-in-None-clause-dies
returns-in-None-clause-dies g c = λ t current stored.
    died_then t c.args.next c.args.pass.now c.make_way.new.pass c.switch_in.new.pass c.switch_in.result
    c.in-None.ensures.left c.switch_in.ensures.did current stored
