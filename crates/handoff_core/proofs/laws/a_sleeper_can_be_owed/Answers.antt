use Rattle.core_law.proofs.Witness.{has-sleeper_to_wake}
use Rattle.handoff_core.proofs.laws.a_sleeper_can_be_owed.Goals as goal

pub returns : goal.returns
returns c = has-sleeper_to_wake
