use Rattle.std.proofs.Common.{◌∙◌, ◌<◌, sym, subst}
use Rattle.handoff_data.specs.declared.shape.Shape.{Shape}
use Rattle.wait_queue.proofs.Enters.{prepared_may}
use Rattle.wait_queue.proofs.entering.prepare.Goals as goal
use Rattle.word_rule.specs.Told.{TakenWait}

pub give-requires-clause-may : goal.give-requires-clause-may
give-requires-clause-may g c κs within =
    prepared_may c.args.wk.now.shape c.args.pass.now.seat c.set_state.new.pass.seat c.lock_wait-wait.new.pass.seat c.args.k
    c.enter_once.new.wait.cond c.lock_wait-wait.result.val c.enter_once.new.wait.val c.args.pass.now.trace
    c.lock_wait-wait.new.pass.trace c.set_state.new.pass.trace (record { t = c.in-Some.t; exclusive = c.args.exclusive })
    c.args.state
    (subst (λ (z : Shape). TakenWait z c.lock_wait-wait.result.val) c.requires.of.same_shape c.lock_wait-wait.ensures.taken)
    (sym c.in-Some.ensures.current)
    (subst (λ (z : Shape). c.in-Some.t < z.tasks) c.requires.of.same_shape c.in-Some.ensures.task) c.lock_wait-wait.ensures.trace c.set_state.ensures.trace
    c.lock_wait-wait.ensures.same.same.same_seat
    (c.set_state.ensures.same.same.same_seat ∙ c.lock_wait-wait.ensures.same.same.same_seat)
    (c.enter_once.ensures.condition ∙ c.lock_wait-wait.ensures.condition) c.enter_once.ensures.value
