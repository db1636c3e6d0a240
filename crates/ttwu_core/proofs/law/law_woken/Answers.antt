use Rattle.ttwu_core.proofs.Sequence.{runnable_made, queued_made, own_made}
use Rattle.ttwu_core.proofs.law.law_woken.Goals as goal

pub returns-clause-runnable : goal.returns-clause-runnable
returns-clause-runnable c = λ t mask shape old new x. runnable_made t mask old new x

pub returns-clause-queued : goal.returns-clause-queued
returns-clause-queued c = λ t k mask shape old new x. queued_made t k mask shape old new x

pub returns-clause-own : goal.returns-clause-own
returns-clause-own c = λ t mask old new current x. own_made t mask old new current x
