use Rattle.sched_switch.proofs.SwitchLaws.{left_first}
use Rattle.sched_switch.proofs.law.law_left.Goals as goal

pub returns : goal.returns
returns c = record { left = λ t next answer old new did current. left_first t next answer old new did current }
