use Rattle.std.proofs.Common.{◌∙◌, ap}
use Rattle.core_data.specs.Noted.{noted}
use Rattle.core_data.specs.Columns.{Columns, columns}
use Rattle.core_data.specs.declared.act.Act.TheVariants.{Slept}
use Rattle.step_kinds.proofs.notes.sleep.Goals as goal

pub returns : goal.returns
returns c =
    let core = columns c.args.core.now in
    let s = c.args.s in
    let t = c.args.t in
    c.in_ok-note.ensures ∙ ap (λ (x : Columns). noted x s (Slept t)) c.forget_sleep.ensures
