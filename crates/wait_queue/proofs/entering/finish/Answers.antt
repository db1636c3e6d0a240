use Rattle.std.proofs.Common.{◌∙◌, sym, ap, subst}
use Rattle.handoff_data.specs.declared.shape.Shape.{Shape}
use Rattle.wait_queue.proofs.Enters.{finished_may}
use Rattle.wait_queue.proofs.entering.finish.Goals as goal
use Rattle.word_rule.specs.Told.{TakenWait}
use Rattle.std.specs.List.{filter}
use Rattle.word_steps.specs.Entries.{is_of_other}
use Rattle.word_steps.specs.Folds.{current_task}

pub give-requires-clause-may : goal.give-requires-clause-may
give-requires-clause-may g c κs within =
    finished_may c.args.wk.now.shape c.args.pass.now.seat c.lock_wait-left.new.pass.seat c.args.k
    c.lock_wait-left.result.cond c.in-Some.t c.lock_wait-left.result.val c.remove.new.self c.set_running.new.pass.trace
    c.lock_wait-left.new.pass.trace
    (subst (λ (z : Shape). TakenWait z c.lock_wait-left.result.val)
    (c.set_running.ensures.same.same.same_shape ∙ c.requires.of.same_shape) c.lock_wait-left.ensures.taken)
    (ap (current_task c.args.pass.now.seat) c.set_running.ensures.trace ∙ sym c.in-Some.ensures.current)
    c.lock_wait-left.ensures.trace
    (c.lock_wait-left.ensures.same.same.same_seat ∙ c.set_running.ensures.same.same.same_seat)
    c.lock_wait-left.ensures.condition
    (c.remove.ensures ∙ ap (filter (is_of_other c.in-Some.t)) c.val_mut.ensures.value)
