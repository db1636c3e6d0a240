use Rattle.std.proofs.Common.{◌∙◌, ap, Option}
use Rattle.core_data.specs.Noted.{noted}
use Rattle.core_data.specs.Columns.{Columns, columns}
use Rattle.core_data.specs.declared.act.Act.TheVariants.{Dequeued}
use Rattle.core_data.specs.declared.words.TaskWords.{TaskWords}
use Rattle.core_kinds.specs.Running.{store_rq, dequeue_entry}
use Rattle.handoff_data.specs.declared.entry.Entry.{Entry}
use Rattle.handoff_data.specs.declared.state.State.{State}
use Rattle.step_kinds.proofs.running.dequeue_task.Goals as goal

pub returns : goal.returns
returns c =
    let core = columns c.args.core.now in
    let s = c.args.s in
    let t = c.args.t in
    c.in_ok-note.ensures
    ∙ ap (λ (x : Columns). noted x s (Dequeued t)) (c.in_ok-store_rq.ensures
    ∙ ap (λ (e : Entry). store_rq core s t 0 e) (c.dequeue_entry-entry.ensures
    ∙ ap (λ (o : Option State). dequeue_entry o c.task_words.result.changes t c.args.c) c.seen.ensures
    ∙ ap (λ (w : TaskWords). dequeue_entry (core.seen_state s) w.changes t c.args.c) c.task_words.ensures))
