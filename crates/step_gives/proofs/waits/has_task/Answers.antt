use Rattle.std.proofs.Common.{◌∙◌}
use Rattle.core_gives.proofs.WaitsLemmas.{has_task-list}
use Rattle.step_gives.proofs.waits.has_task.Goals as goal

pub returns : goal.returns
returns c = c.any_of.ensures ∙ has_task-list c.args.entries.now c.args.t
