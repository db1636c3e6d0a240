use Rattle.core_law.proofs.Laws.{sleepers-wait}
use Rattle.core_law.proofs.Reached.{Holds-reached}
use Rattle.handoff_core.proofs.laws.sleepers_wait.Goals as goal

pub returns : goal.returns
returns c = λ core reached. sleepers-wait core (Holds-reached core reached)
