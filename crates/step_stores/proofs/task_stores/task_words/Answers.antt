use Rattle.step_stores.proofs.Writes.{words-task}
use Rattle.step_stores.proofs.task_stores.task_words.Goals as goal

pub returns : goal.returns
returns c = words-task c.args.core.now c.args.t c.index.result.now c.requires c.index.ensures
