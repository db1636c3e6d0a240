use Rattle.core_law.proofs.Reached.{Holds-opening}
use Rattle.handoff_core.proofs.laws.opening_core_holds.Goals as goal

pub returns : goal.returns
returns c = Holds-opening
