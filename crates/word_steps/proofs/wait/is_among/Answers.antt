use Rattle.std.proofs.Common.{◌∙◌}
use Rattle.core_gives.proofs.WaitsLemmas.{has_task-list}
use Rattle.word_steps.proofs.wait.is_among.Goals as goal

pub returns : goal.returns
returns c = c.any_of.ensures ∙ has_task-list c.args.entries.now.items c.args.t
