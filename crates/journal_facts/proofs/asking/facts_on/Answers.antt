use Rattle.journal_facts.proofs.Runs.{run_is}
use Rattle.journal_facts.proofs.asking.facts_on.Goals as goal

pub returns : goal.returns
returns c =
    run_is c.args.facts.now c.all_from-rest.result.now c.args.kind c.args.subject c.args.number c.args.cpu c.count_on-count.result
    c.all_from-rest.ensures.sorted c.all_from-rest.ensures.all c.count_on-count.ensures.bound c.count_on-count.ensures.on c.count_on-count.ensures.end
