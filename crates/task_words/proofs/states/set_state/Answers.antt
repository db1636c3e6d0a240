use Rattle.std.proofs.Common.{◌≡◌, ◌∙◌, ℕ, sym, subst, ap}
use Rattle.std.specs.Prelude.{Option, Some, unwrap_or}
use Rattle.task_words.proofs.Allowed.{own_store}
use Rattle.task_words.proofs.states.set_state.Goals as goal
use Rattle.task_words.specs.Views.{PassView}
use Rattle.word_rule.specs.May.{MaySetStateWord}
use Rattle.word_steps.specs.Folds.{current_task}

pub unreachable-requires : goal.unreachable-requires
unreachable-requires g c =
    let may = own_store c.args.pass.now.seat c.args.pass.now.trace c.args.state c.requires.may in
    c.in_default.not-Some may.0
    (c.pass.invariant.current ∙ subst (λ (p : PassView). current_task p.seat p.trace ≡ Some may.0) (sym c.pass.view_is) (may.1 0).current)

pub store-requires-clause-may : goal.store-requires-clause-may
store-requires-clause-may g c κs within =
    let may = own_store c.args.pass.now.seat c.args.pass.now.trace c.args.state c.requires.may in
    let named : current_task c.pass.inside.token.seat c.pass.inside.token.trace ≡ Some may.0 =
    subst (λ (p : PassView). current_task p.seat p.trace ≡ Some may.0) (sym c.pass.view_is) (may.1 0).current in
    let same : may.0 ≡ c.in-Some.t =
    ap (λ (o : Option ℕ). unwrap_or o 0) (sym named ∙ sym c.pass.invariant.current ∙ c.in-Some.is) in
    subst (λ (z : PassView × ℕ). (x : ℕ) → MaySetStateWord z.0.seat z.0.trace z.1 x c.args.state.0)
    (λ i. (sym c.pass.view_is i, same i)) may.1
