use Rattle.std.proofs.Common.{◌∙◌, List, sym, subst, ap}
use Rattle.std.specs.Prelude.{IsSome}
use Rattle.ttwu_core.proofs.Loops.{reading_on}
use Rattle.ttwu_core.proofs.Waiting.{rq_locked, rq_matched}
use Rattle.ttwu_core.proofs.finding.await_off.Goals as goal
use Rattle.word_steps.specs.Folds.{task_held, has_matched}
use Rattle.word_steps.specs.Records.{Rec}

pub loop-preserved : goal.loop-preserved
loop-preserved g c =
    reading_on c.args.t c.args.pass.now c.loop.pass c.load_rq-seen.new.pass c.load_rq-seen.result c.loop.invariant
    c.load_rq-seen.ensures.same c.if-seen-eq0.false c.load_rq-seen.ensures.trace

pub returns-then-seen-eq0-clause-changed : goal.returns-then-seen-eq0-clause-changed
returns-then-seen-eq0-clause-changed g c =
    let t = c.args.t in
    let old = c.args.pass.now.trace in
    let waits = c.loop.invariant.waits in
    c.load_rq-seen.ensures.changed
    (subst (λ (z : List Rec). IsSome (task_held z t)) (sym c.loop.invariant.did) (rq_locked t old waits c.requires.locked))
    (ap (λ (z : List Rec). has_matched z t) c.loop.invariant.did
    ∙ ap (λ h. h t) (rq_matched t old waits) ∙ c.requires.matched)
