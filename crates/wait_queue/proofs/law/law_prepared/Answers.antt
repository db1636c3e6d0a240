use Rattle.wait_queue.proofs.Laws.{prepared_within, finished_gone}
use Rattle.wait_queue.proofs.law.law_prepared.Goals as goal

pub returns-clause-prepared : goal.returns-clause-prepared
returns-clause-prepared c = λ k s exclusive state old new p. prepared_within k s exclusive state old new p

pub returns-clause-finished : goal.returns-clause-finished
returns-clause-finished c = λ k s old new p. finished_gone k s old new p
