use Rattle.core_law.proofs.StepLaws.{refusals-are_told}
use Rattle.handoff_core.proofs.step_laws.refusals_are_told.Goals as goal

pub returns : goal.returns
returns c = refusals-are_told
