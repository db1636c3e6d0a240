use Rattle.std.proofs.Common.{◌∙◌, ap, None}
use Rattle.core_data.specs.Noted.{noted}
use Rattle.core_data.specs.Columns.{Columns, columns, put}
use Rattle.core_kinds.specs.Steps.{stored_word}
use Rattle.core_data.specs.declared.act.Act.TheVariants.{OwnStored}
use Rattle.step_kinds.proofs.waking.store_state.Goals as goal

pub returns : goal.returns
returns c =
    let core = columns c.args.core.now in
    let s = c.args.s in
    let t = c.args.t in
    c.in_ok-note.ensures ∙ ap (λ (x : Columns). noted x s (OwnStored t)) (c.in_ok-renew.ensures
    ∙ ap (λ (x : Columns). stored_word x s t) (c.put_seen.ensures ∙ ap (λ (x : Columns). record x { seen_state = put x.seen_state s None }) c.put_state.ensures))
