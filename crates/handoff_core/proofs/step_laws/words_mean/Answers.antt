use Rattle.core_law.proofs.StepLaws.{words-mean}
use Rattle.handoff_core.proofs.step_laws.words_mean.Goals as goal

pub returns : goal.returns
returns c = words-mean
