use Rattle.std.proofs.Common.{sym, subst}
use Rattle.core_law.proofs.EachStep.{Tests-after}
use Rattle.core_law.specs.StepLaws.{KeepsTests}
use Rattle.handoff_core.proofs.step_laws.each_test_stays.Goals as goal

pub returns : goal.returns
returns c = λ core event next step.
    subst (KeepsTests event.seat core) (sym step.next_is) (Tests-after core event.seat event.step step.possible)
