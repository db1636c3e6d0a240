use Rattle.std.proofs.Common.{sym, subst}
use Rattle.core_law.specs.StepLaws.{EndsReads}
use Rattle.core_law.proofs.EachStep.{Ends-after}
use Rattle.handoff_core.proofs.step_laws.each_store_ends_reads.Goals as goal

pub returns : goal.returns
returns c = λ core event next step.
    subst (EndsReads event.seat core) (sym step.next_is) (Ends-after core event.seat event.step step.possible)
