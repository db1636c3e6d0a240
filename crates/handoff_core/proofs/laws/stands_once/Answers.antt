use Rattle.core_law.proofs.Laws.{stands-once}
use Rattle.core_law.proofs.Reached.{Holds-reached}
use Rattle.handoff_core.proofs.laws.stands_once.Goals as goal

pub returns : goal.returns
returns c = λ core reached. stands-once core (Holds-reached core reached)
