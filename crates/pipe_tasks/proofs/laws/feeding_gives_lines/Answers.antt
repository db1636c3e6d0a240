use Rattle.pipe_tasks.proofs.PlanLaws.{feeding}
use Rattle.pipe_tasks.proofs.laws.feeding_gives_lines.Goals as goal

pub returns : goal.returns
returns c = feeding
