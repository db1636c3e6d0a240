use Rattle.std.proofs.Common.{◌∙◌, ap, ◌+◌, ◌++◌, ◌∷◌, [], None, false}
use Rattle.core_data.specs.Columns.{Columns, columns, put}
use Rattle.core_data.specs.declared.words.TaskWords.{TaskWords}
use Rattle.core_kinds.specs.Steps.{stored_word}
use Rattle.handoff_data.specs.declared.entry.Entry.TheVariants.{Finish}
use Rattle.step_kinds.proofs.running.clear_busy.Goals as goal

pub returns : goal.returns
returns c =
    let core = columns c.args.core.now in
    let s = c.args.s in
    let t = c.args.t in
    c.in_ok-renew.ensures
    ∙ ap (λ (x : Columns). stored_word x s t) (c.in_ok-finish.ensures
    ∙ ap (λ (w : TaskWords). record core {
      on_cpu = put core.on_cpu t false;
      runs = put core.runs t (w.runs + 1);
      task_to_clear = put core.task_to_clear s None;
      journal = put core.journal s (core.journal s ++ Finish t (w.runs + 1) s ∷ []);
    }) c.task_words-n.ensures)
