use Rattle.std.proofs.Common.{sym, subst}
use Rattle.core_law.specs.StepLaws.{KeepsTheDead}
use Rattle.core_law.proofs.EachStep.{Dead-after}
use Rattle.handoff_core.proofs.step_laws.no_step_wakes_the_dead.Goals as goal

pub returns : goal.returns
returns c = λ core event next holds step.
    subst (KeepsTheDead event.seat core) (sym step.next_is) (Dead-after core event.seat event.step holds step.possible)
