use Rattle.core_law.proofs.StepLaws.{steps-ask}
use Rattle.handoff_core.proofs.step_laws.steps_ask.Goals as goal

pub returns : goal.returns
returns c = steps-ask
