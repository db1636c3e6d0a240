use Rattle.sched_switch.proofs.SwitchLaws.{picked_front, found_none}
use Rattle.sched_switch.proofs.law.law_picked.Goals as goal

pub returns-clause-front : goal.returns-clause-front
returns-clause-front c = λ t old new did. picked_front t old new did

pub returns-clause-none : goal.returns-clause-none
returns-clause-none c = λ old new did. found_none old new did
