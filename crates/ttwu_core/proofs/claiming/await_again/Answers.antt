use Rattle.std.proofs.Common.{arith, ◌≡◌, ◌∙◌, ◌∷◌, Bool, true, ap}
use Rattle.std.proofs.lemmas.Grind.{common_steps}
use Rattle.ttwu_core.proofs.Loops.{busy_on}
use Rattle.ttwu_core.proofs.claiming.await_again.Goals as goal
use Rattle.word_steps.specs.Records.{LoadedBusy}

pub loop-preserved : goal.loop-preserved
loop-preserved g c =
    let n = c.load_busy-seen.result.n in
    let on : c.load_busy-seen.result.on ≡ true = grind (arith, common_steps, c.if-not-seen.false) in
    busy_on c.args.t n c.args.pass.now c.loop.pass c.load_busy-seen.new.pass c.loop.invariant c.load_busy-seen.ensures.same
    (c.load_busy-seen.ensures.trace ∙ ap (λ (b : Bool). LoadedBusy c.args.t b n ∷ c.loop.pass.trace) on)
