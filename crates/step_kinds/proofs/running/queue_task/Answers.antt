use Rattle.std.proofs.Common.{◌∙◌, ap}
use Rattle.core_data.specs.Noted.{noted}
use Rattle.core_data.specs.Columns.{Columns, columns}
use Rattle.core_data.specs.declared.act.Act.TheVariants.{Queued}
use Rattle.core_data.specs.declared.words.TaskWords.{TaskWords}
use Rattle.core_kinds.specs.Running.{store_rq, queue_entry}
use Rattle.handoff_data.specs.declared.entry.Entry.{Entry}
use Rattle.step_kinds.proofs.running.queue_task.Goals as goal

pub returns : goal.returns
returns c =
    let core = columns c.args.core.now in
    let s = c.args.s in
    let t = c.args.t in
    c.in_ok-note.ensures
    ∙ ap (λ (x : Columns). noted x s (Queued t)) (c.in_ok-store_rq.ensures
    ∙ ap (λ (e : Entry). store_rq core s t 1 e) (c.queue_entry-entry.ensures ∙ ap (λ (w : TaskWords). queue_entry w.changes w.on_rq t c.args.c) c.task_words.ensures))
