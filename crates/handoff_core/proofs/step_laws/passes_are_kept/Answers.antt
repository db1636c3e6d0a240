use Rattle.core_law.proofs.StepLaws.{passes-are_kept}
use Rattle.handoff_core.proofs.step_laws.passes_are_kept.Goals as goal

pub returns : goal.returns
returns c = passes-are_kept
