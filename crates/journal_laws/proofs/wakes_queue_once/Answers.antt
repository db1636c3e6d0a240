-- Wakes and queueings are one to one.
use Rattle.journal_laws.proofs.WakeLaws.{wakes-queue_once}
use Rattle.journal_laws.proofs.wakes_queue_once.Goals as goal

pub returns : goal.returns
returns c = wakes-queue_once
