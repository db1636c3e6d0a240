use Rattle.std.proofs.Common.{sym, subst}
use Rattle.core_data.specs.Columns.{Columns}
use Rattle.core_invariant.specs.Invariant.{Holds}
use Rattle.core_journals.specs.Places.{OneMoveOrNone}
use Rattle.core_law.proofs.Reached.{Holds-after, Moves-after}
use Rattle.handoff_core.proofs.laws.each_step_keeps_the_invariant.Goals as goal

pub returns : goal.returns
returns c = λ core event next holds step.
    subst (λ (x : Columns). Holds x × OneMoveOrNone event.seat core x) (sym step.next_is)
    (Holds-after core event.seat event.step holds step.possible, Moves-after core event.seat event.step holds step.possible)
