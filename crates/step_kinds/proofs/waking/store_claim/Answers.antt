use Rattle.std.proofs.Common.{◌∙◌, ap, ◌++◌, ◌∷◌, []}
use Rattle.core_data.specs.Columns.{Columns, columns, put}
use Rattle.core_kinds.specs.Steps.{stored_word}
use Rattle.handoff_data.specs.declared.entry.Entry.TheVariants.{Wake}
use Rattle.step_kinds.proofs.waking.store_claim.Goals as goal

pub returns : goal.returns
returns c =
    let core = columns c.args.core.now in
    let s = c.args.s in
    let t = c.args.t in
    c.in_ok-renew.ensures ∙ ap (λ (x : Columns). stored_word x s t) (c.in_ok-log.ensures
    ∙ ap (λ (x : Columns). record x { journal = put x.journal s (x.journal s ++ Wake t c.args.m ∷ []) }) c.put_state.ensures)
