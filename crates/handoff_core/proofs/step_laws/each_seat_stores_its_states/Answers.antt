use Rattle.std.proofs.Common.{sym, subst}
use Rattle.core_law.specs.StepLaws.{StoresItsStates}
use Rattle.core_law.proofs.EachStep.{Stores-after}
use Rattle.handoff_core.proofs.step_laws.each_seat_stores_its_states.Goals as goal

pub returns : goal.returns
returns c = λ core event next step.
    subst (StoresItsStates event.seat core) (sym step.next_is) (Stores-after core event.seat event.step step.possible)
