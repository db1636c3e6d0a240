use Rattle.core_law.proofs.StepLaws.{sleeps-are_kept}
use Rattle.handoff_core.proofs.step_laws.sleeps_are_kept.Goals as goal

pub returns : goal.returns
returns c = sleeps-are_kept
