use Rattle.word_kinds.proofs.laws.bodies_make_events.Goals as goal
use Rattle.word_rule.proofs.BodyLaws.{take_body_event, return_body_event}

pub returns-clause-out : goal.returns-clause-out
returns-clause-out c = take_body_event

pub returns-clause-home : goal.returns-clause-home
returns-clause-home c = λ shape words homes traces s t ended. return_body_event shape words homes traces s t ended
