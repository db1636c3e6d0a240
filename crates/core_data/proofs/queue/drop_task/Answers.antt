use Rattle.std.proofs.Common.{rules}
use Rattle.std.proofs.lemmas.Fn.{filter_same}
use Rattle.core_data.proofs.QueueLemmas.{found_once}
use Rattle.core_data.proofs.queue.drop_task.Goals as goal

pub returns-clause-rest : goal.returns-clause-rest
returns-clause-rest c = filter_same _ _ _ (λ x b f' k. search rules) _ _ c.retain.ensures.filtered

pub returns-clause-found : goal.returns-clause-found
returns-clause-found c = found_once c.args.waiting.now.items c.args.t c.contains-found.result c.requires c.contains-found.ensures.value
