use Rattle.std.proofs.Common.{◌∙◌, ap, sym, Bool}
use Rattle.core_data.specs.Columns.{columns}
use Rattle.core_kinds.specs.Waking.{slept_if}
use Rattle.step_kinds.proofs.notes.sleep_if.Goals as goal

pub returns-in_ok-sleep : goal.returns-in_ok-sleep
returns-in_ok-sleep c =
    c.in_ok-sleep.ensures ∙ ap (λ (b : Bool). slept_if b (columns c.args.core.now) c.args.s c.args.t) (sym c.if-on.true)
