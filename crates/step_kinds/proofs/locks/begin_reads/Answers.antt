use Rattle.std.proofs.Common.{◌∙◌, ap}
use Rattle.core_data.specs.Noted.{noted}
use Rattle.core_data.specs.Columns.{Columns}
use Rattle.core_data.specs.declared.act.Act.TheVariants.{TookTask, Renewed}
use Rattle.step_kinds.proofs.locks.begin_reads.Goals as goal

pub returns : goal.returns
returns c = c.in_ok-note-2.ensures
    ∙ ap (λ (x : Columns). noted x c.args.s (Renewed c.args.t)) (c.in_ok-note.ensures ∙ ap (λ (x : Columns). noted x c.args.s (TookTask c.args.t)) (c.in_ok-set_reads.ensures))
