use Rattle.std.proofs.Common.{rules, ap, ◌∙◌, ◌++◌, ◌∷◌, []}
use Rattle.std.proofs.lemmas.Fn.{filter_same}
use Rattle.step_data.proofs.act.note_act.Goals as goal

pub returns : goal.returns
returns c = c.in_ok-push.ensures.items ∙ ap (λ xs. xs ++ c.args.act ∷ []) (filter_same _ _ _ (λ x b f' k. search rules) _ _ c.retain.ensures.filtered)
