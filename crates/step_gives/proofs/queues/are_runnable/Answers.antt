use Rattle.std.proofs.Common.{◌≤◌, arith, subst}
use Rattle.std.specs.Prelude.{IsTrue}
use Rattle.core_data.specs.Columns.{columns}
use Rattle.core_kinds.specs.Steps.{IsRunnable}
use Rattle.core_gives.proofs.Places.{more, all-waiting, each-of, of-each}
use Rattle.step_gives.proofs.queues.are_runnable.Goals as goal

pub loop-i-init : goal.loop-i-init
loop-i-init c = λ i t lt at. absurd (omega (arith, lt))

pub returns-then-not-is_runnable_at : goal.returns-then-not-is_runnable_at
returns-then-not-is_runnable_at c = (
  λ h. absurd (grind (arith, h)),
  λ all.
      let at = of-each c.args.queue.now.waiting (λ t. IsRunnable ((columns c.args.core.now).state t)) all in
      subst (λ b. IsTrue b) c.if-not-is_runnable_at.true (c.is_runnable_at.ensures.1 (λ t e. at c.loop-i.i t e)),
)

pub loop-i-preserved : goal.loop-i-preserved
loop-i-preserved c =
    more c.args.queue.now.waiting (λ t. IsRunnable ((columns c.args.core.now).state t)) c.loop-i.i c.loop-i.invariant (c.is_runnable_at.ensures.0 c.if-not-is_runnable_at.false)

pub returns : goal.returns
returns c = (
  λ h. each-of c.args.queue.now.waiting (λ t. IsRunnable ((columns c.args.core.now).state t))
      (all-waiting c.args.queue.now (λ t. IsRunnable ((columns c.args.core.now).state t)) c.loop-i.i (omega arith) c.loop-i.invariant),
  λ h. grind arith,
)
