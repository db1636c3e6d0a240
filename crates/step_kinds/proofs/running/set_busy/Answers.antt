use Rattle.std.proofs.Common.{◌∙◌, ap, ◌+◌, ◌++◌, ◌∷◌, ◌==◌, [], Some, None, true, false, ℕ}
use Rattle.std.specs.Prelude.{if◌then◌else◌}
use Rattle.core_data.specs.Noted.{noted}
use Rattle.core_data.specs.Columns.{Columns, columns, put}
use Rattle.core_data.specs.declared.act.Act.TheVariants.{Picked}
use Rattle.core_data.specs.declared.words.TaskWords.{TaskWords}
use Rattle.core_kinds.specs.Steps.{stored_word}
use Rattle.handoff_data.specs.declared.entry.Entry.TheVariants.{Pick}
use Rattle.step_kinds.proofs.running.set_busy.Goals as goal

pub returns : goal.returns
returns c =
    let core = columns c.args.core.now in
    let s = c.args.s in
    let t = c.args.t in
    let picked = λ (n : ℕ). record core {
      on_cpu = put core.on_cpu t true;
      runs = put core.runs t n;
      current_task = put core.current_task s (Some t);
      seen_state = put core.seen_state s None;
      level_known = put core.level_known s None;
      tested = put core.tested s (λ u l. if u == t then None else core.tested s u l);
      is_asleep = put core.is_asleep s (λ u l. if u == t then false else core.is_asleep s u l);
      journal = put core.journal s (core.journal s ++ Pick t n c.args.c ∷ []);
    } in
    c.in_ok-note.ensures
    ∙ ap (λ (x : Columns). noted x s (Picked t)) (c.in_ok-renew.ensures
    ∙ ap (λ (x : Columns). stored_word x s t) (c.in_ok-pick.ensures ∙ ap (λ (w : TaskWords). picked (w.runs + 1)) c.task_words-n.ensures))
