use Rattle.std.proofs.Common.{◌∙◌, ap}
use Rattle.core_data.specs.Found.{no_reads}
use Rattle.core_data.specs.Noted.{noted}
use Rattle.core_data.specs.Columns.{Columns, put_at}
use Rattle.core_data.specs.declared.act.Act.TheVariants.{TookTask, Renewed}
use Rattle.step_kinds.proofs.locks.take_task.Goals as goal

pub returns : goal.returns
returns c = c.in_ok-begin_reads.ensures
    ∙ ap (λ (x : Columns). noted (noted (record x { last_reads = put_at x.last_reads c.args.s c.args.t (no_reads c.args.t) }) c.args.s (TookTask c.args.t)) c.args.s (Renewed c.args.t))
    (c.in_ok-move_val_out.ensures)
