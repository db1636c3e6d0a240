use Rattle.std.proofs.Common.{ℕ, List, subst}
use Rattle.wait_queue.proofs.Settling.{bumped_settles}
use Rattle.wait_queue.proofs.walking.bump_and_wake.Goals as goal
use Rattle.wait_queue.specs.Settles.{Settles}
use Rattle.word_steps.specs.Records.{Rec}

pub returns-clause-settles : goal.returns-clause-settles
returns-clause-settles g c =
    bumped_settles c.args.pass.now.seat c.args.k c.bump_cond.result c.args.pass.now.trace c.wake_all.new.pass.trace
    c.requires.free_wait
    (subst (λ (z : ℕ × List Rec). Settles z.0 z.1 c.wake_all.new.pass.trace)
    (λ i. (c.bump_cond.ensures.same.same.same_seat i, c.bump_cond.ensures.trace i)) c.wake_all.ensures.settles)
    c.wake_all.ensures.paid
