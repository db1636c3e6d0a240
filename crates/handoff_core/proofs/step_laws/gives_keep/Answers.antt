use Rattle.core_law.proofs.StepLaws.{gives-keep}
use Rattle.handoff_core.proofs.step_laws.gives_keep.Goals as goal

pub returns : goal.returns
returns c = gives-keep
