use Rattle.task_script.proofs.ScriptLaws.{script_or_fault, not_both, one_script, one_fault}
use Rattle.task_script.proofs.ForestLaws.{script-forest}
use Rattle.task_script.proofs.ValidLaws.{script_machine, script_room, script_names, script_plans, script_customs}
use Rattle.task_script.proofs.law.law_script.Goals as goal

pub returns-clause-some : goal.returns-clause-some
returns-clause-some c = script_or_fault

pub returns-clause-not_both : goal.returns-clause-not_both
returns-clause-not_both c = not_both

pub returns-clause-one_script : goal.returns-clause-one_script
returns-clause-one_script c = one_script

pub returns-clause-one_fault : goal.returns-clause-one_fault
returns-clause-one_fault c = one_fault

pub returns-clause-forest : goal.returns-clause-forest
returns-clause-forest c = script-forest

pub returns-clause-machine : goal.returns-clause-machine
returns-clause-machine c = script_machine

pub returns-clause-room : goal.returns-clause-room
returns-clause-room c = script_room

pub returns-clause-names : goal.returns-clause-names
returns-clause-names c = script_names

pub returns-clause-plans : goal.returns-clause-plans
returns-clause-plans c = script_plans

pub returns-clause-customs : goal.returns-clause-customs
returns-clause-customs c = script_customs
