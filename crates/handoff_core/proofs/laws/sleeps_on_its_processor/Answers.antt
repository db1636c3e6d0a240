use Rattle.core_law.proofs.Laws.{sleeps-on_its_processor}
use Rattle.core_law.proofs.Reached.{Holds-reached}
use Rattle.handoff_core.proofs.laws.sleeps_on_its_processor.Goals as goal

pub returns : goal.returns
returns c = λ core reached. sleeps-on_its_processor core (Holds-reached core reached)
