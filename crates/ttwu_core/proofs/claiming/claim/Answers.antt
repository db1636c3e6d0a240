use Rattle.std.proofs.Common.{◌≡◌, ◌∙◌, ◌∷◌, List, sym, subst, ap}
use Rattle.ttwu_core.proofs.Waiting.{claim_keeps, claim_others, claim_claimed, claim_clear, claim_moving, claim_numbers}
use Rattle.ttwu_core.proofs.claiming.claim.Goals as goal
use Rattle.ttwu_core.specs.Claims.{awaited_clear}
use Rattle.ttwu_core.specs.Keeps.{Keeps}
use Rattle.word_steps.specs.Folds.{is_claimed, is_moving, number_read, saw_clear}
use Rattle.word_steps.specs.Records.{Rec, Claimed}

pub returns-clause-did : goal.returns-clause-did
returns-clause-did g c =
    let t = c.args.t in
    let n = c.await_clear.result in
    let ns = c.await_clear.ensures.did.waits in
    let old = c.args.pass.now.trace in
    let did : c.await_clear.new.pass.trace ≡ awaited_clear t n ns (Claimed t c.args.m ∷ old) =
    c.await_clear.ensures.did.did ∙ ap (awaited_clear t n ns) c.claim_task.ensures.trace in
    record {
      n = n;
      waits = ns;
      did = did;
      turn = c.await_clear.ensures.same.same_turn ∙ c.claim_task.ensures.turn;
      claimed = ap (λ (z : List Rec). is_claimed z t) did ∙ claim_claimed c.args.pass.now.seat t old c.args.m n ns;
      clear = ap (λ (z : List Rec). saw_clear z t) did ∙ claim_clear c.args.pass.now.seat t old c.args.m n ns;
    }

pub returns-clause-keeps : goal.returns-clause-keeps
returns-clause-keeps g c =
    let t = c.args.t in
    let ns = c.await_clear.ensures.did.waits in
    let old = c.args.pass.now.trace in
    subst (λ (z : List Rec). Keeps c.args.pass.now.seat old z)
    (sym (c.await_clear.ensures.did.did ∙ ap (awaited_clear t c.await_clear.result ns) c.claim_task.ensures.trace))
    (claim_keeps c.args.pass.now.seat t old c.args.m c.await_clear.result ns)

pub returns-clause-others : goal.returns-clause-others
returns-clause-others g c = λ u apart.
    let t = c.args.t in
    let ns = c.await_clear.ensures.did.waits in
    let old = c.args.pass.now.trace in
    ap (λ (z : List Rec). is_claimed z u)
    (c.await_clear.ensures.did.did ∙ ap (awaited_clear t c.await_clear.result ns) c.claim_task.ensures.trace)
    ∙ claim_others c.args.pass.now.seat t old c.args.m c.await_clear.result ns u apart

pub returns-clause-moving : goal.returns-clause-moving
returns-clause-moving g c =
    let t = c.args.t in
    let ns = c.await_clear.ensures.did.waits in
    let old = c.args.pass.now.trace in
    ap is_moving (c.await_clear.ensures.did.did ∙ ap (awaited_clear t c.await_clear.result ns) c.claim_task.ensures.trace)
    ∙ claim_moving c.args.pass.now.seat t old c.args.m c.await_clear.result ns

pub returns-clause-numbers : goal.returns-clause-numbers
returns-clause-numbers g c =
    let t = c.args.t in
    let ns = c.await_clear.ensures.did.waits in
    let old = c.args.pass.now.trace in
    ap number_read (c.await_clear.ensures.did.did ∙ ap (awaited_clear t c.await_clear.result ns) c.claim_task.ensures.trace)
    ∙ claim_numbers c.args.pass.now.seat t old c.args.m c.await_clear.result ns
