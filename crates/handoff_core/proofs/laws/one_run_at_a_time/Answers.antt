use Rattle.core_law.proofs.Laws.{one-run_at_a_time}
use Rattle.core_law.proofs.Reached.{Holds-reached}
use Rattle.handoff_core.proofs.laws.one_run_at_a_time.Goals as goal

pub returns : goal.returns
returns c = λ core reached. one-run_at_a_time core (Holds-reached core reached)
