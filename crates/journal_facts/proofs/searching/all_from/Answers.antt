use Rattle.journal_facts.proofs.Points.{all_behind}
use Rattle.journal_facts.proofs.searching.all_from.Goals as goal

pub returns-clause-all : goal.returns-clause-all
returns-clause-all c =
    let point = c.count_before-count.ensures.point in
    let bound = c.count_before-count.ensures.bound in
    rw c.as_slice-sorted.ensures.items (all_behind c.args.facts.now c.args.key c.count_before-count.result c.as_slice-sorted.ensures.sorted point bound)
