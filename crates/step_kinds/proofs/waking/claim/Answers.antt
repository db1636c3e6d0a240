use Rattle.std.proofs.Common.{◌∙◌, ap, ◌++◌, ◌∷◌, [], ℕ}
use Rattle.core_data.specs.Noted.{noted}
use Rattle.core_data.specs.Columns.{Columns, columns, put}
use Rattle.core_data.specs.declared.words.TaskWords.{TaskWords}
use Rattle.core_kinds.specs.Steps.{stored_word}
use Rattle.core_kinds.specs.Steps.{waking}
use Rattle.core_data.specs.declared.act.Act.TheVariants.{Claimed, Passed}
use Rattle.handoff_data.specs.declared.entry.Entry.TheVariants.{Wake}
use Rattle.step_kinds.proofs.waking.claim.Goals as goal

pub returns : goal.returns
returns c =
    let core = columns c.args.core.now in
    let s = c.args.s in
    let t = c.args.t in
    let stored = λ (m : ℕ). noted (noted (stored_word (record core { state = put core.state t waking; journal = put core.journal s (core.journal s ++ Wake t m ∷ []) }) s t) s (Claimed t)) s
    (Passed t) in
    c.in_ok-note-2.ensures ∙ ap (λ (x : Columns). noted x s (Passed t)) (c.in_ok-note.ensures ∙ ap (λ (x : Columns). noted x s (Claimed t)) c.in_ok-store_claim.ensures)
    ∙ ap (λ (w : TaskWords). stored w.changes) c.task_words-m.ensures
