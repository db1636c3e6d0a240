use Rattle.std.proofs.Common.{◌∙◌, ap}
use Rattle.core_data.specs.Columns.{Columns, columns}
use Rattle.core_kinds.specs.Steps.{stored_word}
use Rattle.step_kinds.proofs.waking.store_cpu.Goals as goal

pub returns : goal.returns
returns c =
    let core = columns c.args.core.now in
    let s = c.args.s in
    let t = c.args.t in
    c.in_ok-renew.ensures ∙ ap (λ (x : Columns). stored_word x s t) c.in_ok-write_cpu.ensures
