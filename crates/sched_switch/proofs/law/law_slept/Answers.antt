use Rattle.sched_switch.proofs.SleepLaws.{slept_after_test, slept_asleep, not_missed, not_missed_at_end}
use Rattle.sched_switch.proofs.law.law_slept.Goals as goal

pub returns-clause-order : goal.returns-clause-order
returns-clause-order c = λ k v m old new slept. slept_after_test k v m old new slept

pub returns-clause-asleep : goal.returns-clause-asleep
returns-clause-asleep c = λ k v m old new slept. slept_asleep k v m old new slept

pub returns-clause-held : goal.returns-clause-held
returns-clause-held c = λ k v m old new slept. not_missed k v m old new slept

pub returns-clause-closed : goal.returns-clause-closed
returns-clause-closed c = λ k v m old new slept. not_missed_at_end k v m old new slept
