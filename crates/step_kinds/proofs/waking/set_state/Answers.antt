use Rattle.std.proofs.Common.{◌∙◌, ap, ◌==◌, None, Bool}
use Rattle.core_data.specs.Noted.{noted}
use Rattle.core_data.specs.Columns.{Columns, columns, put}
use Rattle.core_kinds.specs.Steps.{stored_word}
use Rattle.core_kinds.specs.Waking.{slept_if, ran_if}
use Rattle.core_data.specs.declared.act.Act.TheVariants.{OwnStored}
use Rattle.step_kinds.proofs.waking.set_state.Goals as goal

pub returns : goal.returns
returns c =
    let core = columns c.args.core.now in
    let s = c.args.s in
    let t = c.args.t in
    let stored = noted (stored_word (record core { state = put core.state t c.args.state; seen_state = put core.seen_state s None }) s t) s (OwnStored t) in
    c.in_ok-run_if.ensures ∙ ap (λ (x : Columns). ran_if (c.args.state.0 == 0) x s t) (c.in_ok-sleep_if.ensures
    ∙ ap (λ (x : Columns). slept_if c.is_sleep.result x s t) c.in_ok-store_state.ensures
    ∙ ap (λ (b : Bool). slept_if b stored s t) c.is_sleep.ensures)
