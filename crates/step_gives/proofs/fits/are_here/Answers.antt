use Rattle.std.proofs.Common.{◌≤◌, arith, subst}
use Rattle.std.specs.Prelude.{IsTrue}
use Rattle.core_data.specs.Columns.{columns}
use Rattle.core_gives.specs.Fits.{IsHere}
use Rattle.core_gives.proofs.Places.{more, all-waiting}
use Rattle.step_gives.proofs.fits.are_here.Goals as goal

pub loop-i-init : goal.loop-i-init
loop-i-init c = λ i t lt at. absurd (omega (arith, lt))

pub returns-then-not-is_here_at : goal.returns-then-not-is_here_at
returns-then-not-is_here_at c =
    (λ h. absurd (grind (arith, h)), λ all. subst (λ b. IsTrue b) c.if-not-is_here_at.true (c.is_here_at.ensures.1 (λ t at. all c.loop-i.i t at)))

pub loop-i-preserved : goal.loop-i-preserved
loop-i-preserved c =
    more c.args.queue.now.waiting (λ t. IsHere (columns c.args.core.now) c.args.c t) c.loop-i.i c.loop-i.invariant (c.is_here_at.ensures.0 c.if-not-is_here_at.false)

pub returns : goal.returns
returns c =
    (λ h. all-waiting c.args.queue.now (λ t. IsHere (columns c.args.core.now) c.args.c t) c.loop-i.i (omega arith) c.loop-i.invariant, λ h. grind arith)
