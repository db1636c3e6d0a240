use Rattle.wait_queue.proofs.Laws.{none_left, enough_met, none_woken}
use Rattle.wait_queue.proofs.law.law_walked.Goals as goal

pub returns-clause-all : goal.returns-clause-all
returns-clause-all c = λ shape k woken old new w. none_left shape k woken old new w

pub returns-clause-asked : goal.returns-clause-asked
returns-clause-asked c = λ shape k n woken old new some w. enough_met shape k n woken old new some w

pub returns-clause-none : goal.returns-clause-none
returns-clause-none c = λ shape k woken limit old new w. none_woken shape k woken limit old new w
