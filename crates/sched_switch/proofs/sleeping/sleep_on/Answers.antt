use Rattle.sched_switch.proofs.SleptAs.{is_tested, has_slept_as, was_woken_as}
use Rattle.sched_switch.proofs.sleeping.sleep_on.Goals as goal

pub returns-in-Gone-clause-did : goal.returns-in-Gone-clause-did
returns-in-Gone-clause-did g c =
    has_slept_as c.args.k c.load_cond-now.result c.args.v c.in-Some.t c.in-Gone.m c.args.pass.now c.load_cond-now.new.pass
    c.switch_out.new.pass
    (is_tested c.args.k c.load_cond-now.result c.args.pass.now c.prepare.new.pass c.load_cond-now.new.pass
    c.prepare.ensures.same c.load_cond-now.ensures.same c.prepare.ensures.did c.load_cond-now.ensures.trace)
    c.if-now-v.false c.in-Gone.ensures.did

pub returns-in-Back-clause-did : goal.returns-in-Back-clause-did
returns-in-Back-clause-did g c =
    was_woken_as c.args.k c.load_cond-now.result c.args.v c.in-Some.t c.args.pass.now c.load_cond-now.new.pass
    c.switch_out.new.pass
    (is_tested c.args.k c.load_cond-now.result c.args.pass.now c.prepare.new.pass c.load_cond-now.new.pass
    c.prepare.ensures.same c.load_cond-now.ensures.same c.prepare.ensures.did c.load_cond-now.ensures.trace)
    c.if-now-v.false c.in-Back.ensures.did
