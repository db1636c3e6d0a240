use Rattle.word_kinds.proofs.laws.locks_make_events.Goals as goal
use Rattle.word_rule.proofs.LockLaws.{take_event, give_event}

pub returns-clause-takes : goal.returns-clause-takes
returns-clause-takes c = λ shape words homes traces s n sort v. take_event sort shape words homes traces s n v

pub returns-clause-gives : goal.returns-clause-gives
returns-clause-gives c = λ shape words homes traces s n sort taken given. give_event sort shape words homes traces s n taken given
