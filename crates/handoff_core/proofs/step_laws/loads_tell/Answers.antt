use Rattle.core_law.proofs.StepLaws.{loads-tell}
use Rattle.handoff_core.proofs.step_laws.loads_tell.Goals as goal

pub returns : goal.returns
returns c = loads-tell
