use Rattle.std.proofs.Common.{List, subst}
use Rattle.core_data.specs.declared.values.WaitEntry.{WaitEntry}
use Rattle.handoff_data.specs.declared.shape.Shape.{Shape}
use Rattle.wait_queue.proofs.Walked.{walked_may, walked_did, walked_paid, walk_settles}
use Rattle.wait_queue.proofs.walking.walk.Goals as goal
use Rattle.wait_queue.specs.Walks.{HasWalked}
use Rattle.word_rule.specs.Told.{TakenWait}

pub give-requires-clause-may : goal.give-requires-clause-may
give-requires-clause-may g c κs within =
    let did : HasWalked c.args.wk.now.shape c.args.limit c.walk_entries-woken.new.entries c.lock_wait-wait.result.val c.lock_wait-wait.new.pass
    c.walk_entries-woken.new.pass c.walk_entries-woken.result =
    subst (λ (z : List WaitEntry). HasWalked c.args.wk.now.shape c.args.limit c.walk_entries-woken.new.entries z c.lock_wait-wait.new.pass
    c.walk_entries-woken.new.pass c.walk_entries-woken.result) c.val_mut.ensures.value c.walk_entries-woken.ensures.did in
    walked_may c.args.wk.now.shape c.args.limit c.walk_entries-woken.new.entries c.lock_wait-wait.result.val
    c.lock_wait-wait.new.pass c.walk_entries-woken.new.pass c.walk_entries-woken.result c.args.k
    c.walk_entries-woken.new.pass.seat c.lock_wait-wait.result.cond c.args.pass.now.trace
    (subst (λ (z : Shape). TakenWait z c.lock_wait-wait.result.val) c.requires.of.same_shape c.lock_wait-wait.ensures.taken)
    did c.lock_wait-wait.ensures.trace c.walk_entries-woken.ensures.rests
    c.lock_wait-wait.ensures.condition

pub returns-clause-did : goal.returns-clause-did
returns-clause-did g c =
    let did : HasWalked c.args.wk.now.shape c.args.limit c.walk_entries-woken.new.entries c.lock_wait-wait.result.val c.lock_wait-wait.new.pass
    c.walk_entries-woken.new.pass c.walk_entries-woken.result =
    subst (λ (z : List WaitEntry). HasWalked c.args.wk.now.shape c.args.limit c.walk_entries-woken.new.entries z c.lock_wait-wait.new.pass
    c.walk_entries-woken.new.pass c.walk_entries-woken.result) c.val_mut.ensures.value c.walk_entries-woken.ensures.did in
    walked_did c.args.wk.now.shape c.args.limit c.walk_entries-woken.new.entries c.lock_wait-wait.result.val
    c.lock_wait-wait.new.pass c.walk_entries-woken.new.pass c.walk_entries-woken.result c.args.k
    c.args.pass.now c.give.new.pass c.lock_wait-wait.result.cond did
    c.lock_wait-wait.ensures.same c.lock_wait-wait.ensures.trace c.walk_entries-woken.ensures.rests
    c.lock_wait-wait.ensures.condition c.give.ensures.same c.give.ensures.trace

pub returns-clause-paid : goal.returns-clause-paid
returns-clause-paid g c =
    let did : HasWalked c.args.wk.now.shape c.args.limit c.walk_entries-woken.new.entries c.lock_wait-wait.result.val c.lock_wait-wait.new.pass
    c.walk_entries-woken.new.pass c.walk_entries-woken.result =
    subst (λ (z : List WaitEntry). HasWalked c.args.wk.now.shape c.args.limit c.walk_entries-woken.new.entries z c.lock_wait-wait.new.pass
    c.walk_entries-woken.new.pass c.walk_entries-woken.result) c.val_mut.ensures.value c.walk_entries-woken.ensures.did in
    walked_paid c.args.wk.now.shape c.args.limit c.walk_entries-woken.new.entries c.lock_wait-wait.result.val
    c.lock_wait-wait.new.pass c.walk_entries-woken.new.pass c.walk_entries-woken.result c.args.k c.give.new.pass.trace
    c.lock_wait-wait.result.cond c.args.pass.now.trace did c.lock_wait-wait.ensures.trace
    c.walk_entries-woken.ensures.rests c.lock_wait-wait.ensures.condition c.give.ensures.trace

pub returns-clause-settles : goal.returns-clause-settles
returns-clause-settles g c =
    walk_settles c.args.pass.now.seat c.lock_wait-wait.new.pass.seat c.args.k c.lock_wait-wait.result.cond c.lock_wait-wait.result.val
    _ c.walk_entries-woken.new.entries c.args.pass.now.trace c.lock_wait-wait.new.pass.trace c.walk_entries-woken.new.pass.trace
    c.give.new.pass.trace c.requires.free_wait c.lock_wait-wait.ensures.trace c.walk_entries-woken.ensures.rests c.lock_wait-wait.ensures.same.same.same_seat
    c.lock_wait-wait.ensures.condition c.give.ensures.trace
