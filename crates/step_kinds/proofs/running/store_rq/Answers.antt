use Rattle.std.proofs.Common.{◌∙◌, ap, ◌+◌, ◌++◌, ◌∷◌, [], ℕ}
use Rattle.core_data.specs.Noted.{noted}
use Rattle.core_data.specs.Columns.{Columns, columns, put, put_at}
use Rattle.core_data.specs.declared.act.Act.TheVariants.{Renewed, StoredWord}
use Rattle.core_data.specs.declared.pos.TaskReads.{TaskReads}
use Rattle.core_data.specs.declared.words.TaskWords.{TaskWords}
use Rattle.core_kinds.specs.Steps.{numbered_reads}
use Rattle.step_kinds.proofs.running.store_rq.Goals as goal

pub returns : goal.returns
returns c =
    let core = columns c.args.core.now in
    let s = c.args.s in
    let t = c.args.t in
    let m = c.task_words-m.result.changes + 1 in
    let wrote =
    λ (n : ℕ) (r : TaskReads). noted (noted (record core {
      on_rq = put core.on_rq t c.args.on;
      changes = put core.changes t n;
      journal = put core.journal s (core.journal s ++ c.args.entry ∷ []);
      last_reads = put_at core.last_reads s t (numbered_reads t n r);
    }) s (Renewed t)) s (StoredWord t) in
    c.in_ok-note-2.ensures
    ∙ ap (λ (x : Columns). noted x s (StoredWord t)) (c.in_ok-note.ensures
    ∙ ap (λ (x : Columns). noted x s (Renewed t)) (c.in_ok-set_reads.ensures
    ∙ ap (λ (x : Columns). record x { last_reads = put_at x.last_reads s t (numbered_reads t m c.reads-old.result) }) (c.in_ok-log.ensures
    ∙ ap (λ (x : Columns). record x { journal = put x.journal s (x.journal s ++ c.args.entry ∷ []) }) c.put_rq.ensures)))
    ∙ ap (λ (w : TaskWords). wrote (w.changes + 1) c.reads-old.result) c.task_words-m.ensures
    ∙ ap (λ (r : TaskReads). wrote (core.changes t + 1) r) c.reads-old.ensures
