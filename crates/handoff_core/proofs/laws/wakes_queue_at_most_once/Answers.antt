use Rattle.core_law.proofs.Laws.{wakes-queue_at_most_once}
use Rattle.core_law.proofs.Reached.{Holds-reached}
use Rattle.handoff_core.proofs.laws.wakes_queue_at_most_once.Goals as goal

pub returns : goal.returns
returns c = λ core reached. wakes-queue_at_most_once core (Holds-reached core reached)
