use Rattle.core_data.proofs.QueueLemmas.{found_once}
use Rattle.core_data.proofs.queue.is_among.Goals as goal

pub returns : goal.returns
returns c = found_once c.args.waiting.now.items c.args.t c.contains.result c.requires c.contains.ensures.value
