-- What is listed is queued in order.
use Rattle.journal_laws.proofs.ListLaws.{queues-all, queues-in_order}
use Rattle.journal_laws.proofs.listings_queue_in_order.Goals as goal

pub returns-clause-no_bad : goal.returns-clause-no_bad
returns-clause-no_bad c = queues-in_order

pub returns-clause-legal : goal.returns-clause-legal
returns-clause-legal c = queues-all
