use Rattle.std.proofs.Common.{◌∙◌, ap, ◌+◌}
use Rattle.core_data.specs.Noted.{noted}
use Rattle.core_data.specs.Columns.{Columns, columns}
use Rattle.core_data.specs.declared.act.Act.TheVariants.{Dequeued}
use Rattle.core_data.specs.declared.words.TaskWords.{TaskWords}
use Rattle.core_kinds.specs.Running.{store_rq}
use Rattle.handoff_data.specs.declared.entry.Entry.TheVariants.{Out}
use Rattle.step_kinds.proofs.running.move_task.Goals as goal

pub returns : goal.returns
returns c =
    let core = columns c.args.core.now in
    let s = c.args.s in
    let t = c.args.t in
    c.in_ok-note.ensures
    ∙ ap (λ (x : Columns). noted x s (Dequeued t)) (c.in_ok-store_rq.ensures ∙ ap (λ (w : TaskWords). store_rq core s t 2 (Out t (w.changes + 1) c.args.c)) c.task_words-m.ensures)
