use Rattle.core_law.proofs.Laws.{no-lost_wake}
use Rattle.core_law.proofs.Reached.{Holds-reached}
use Rattle.handoff_core.proofs.laws.no_lost_wake.Goals as goal

pub returns : goal.returns
returns c = λ core reached. no-lost_wake core (Holds-reached core reached)
