use Rattle.std.proofs.Common.{◌∙◌, ap}
use Rattle.core_data.specs.Noted.{noted}
use Rattle.core_data.specs.Columns.{Columns, columns, put_at}
use Rattle.core_data.specs.declared.act.Act.TheVariants.{Renewed, StoredWord}
use Rattle.core_data.specs.declared.pos.TaskReads.{TaskReads}
use Rattle.core_kinds.specs.Steps.{kept_reads}
use Rattle.step_kinds.proofs.common.renew.Goals as goal

pub returns : goal.returns
returns c = c.in_ok-note-2.ensures
    ∙ ap (λ (x : Columns). noted x c.args.s (StoredWord c.args.t)) (c.in_ok-note.ensures
    ∙ ap (λ (x : Columns). noted x c.args.s (Renewed c.args.t)) (c.in_ok-set_reads.ensures
    ∙ ap (λ (r : TaskReads). record (columns c.args.core.now) { last_reads = put_at (columns c.args.core.now).last_reads c.args.s c.args.t (kept_reads c.args.t r) }) c.reads-old.ensures))
