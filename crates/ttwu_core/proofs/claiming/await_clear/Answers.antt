use Rattle.std.proofs.Common.{arith, ◌≡◌, ◌∙◌, ◌∷◌, Bool, true, ap}
use Rattle.std.proofs.lemmas.Grind.{common_steps}
use Rattle.ttwu_core.proofs.Loops.{awaited_before}
use Rattle.ttwu_core.proofs.claiming.await_clear.Goals as goal
use Rattle.word_steps.specs.Records.{LoadedBusy}

pub returns-clause-did : goal.returns-clause-did
returns-clause-did g c =
    let seen = c.load_busy-seen in
    let on : seen.result.on ≡ true = grind (arith, common_steps, c.if-not-seen.false) in
    awaited_before c.args.t seen.result.n c.await_again.result c.args.pass.now.trace seen.new.pass.trace c.await_again.new.pass.trace
    (seen.ensures.trace ∙ ap (λ (b : Bool). LoadedBusy c.args.t b seen.result.n ∷ c.args.pass.now.trace) on) c.await_again.ensures.did
