use Rattle.std.proofs.Common.{arith, ◌-◌}
use Rattle.journal_facts.proofs.Points.{same_default, last_found, greatest}
use Rattle.journal_facts.proofs.searching.last_before.Goals as goal

pub returns-else-count-eq0-clause-found : goal.returns-else-count-eq0-clause-found
returns-else-count-eq0-clause-found c =
    let facts = c.args.facts.now in
    let n = c.count_before-count.result in
    let bound = c.count_before-count.ensures.bound in
    rw c.as_slice-sorted.ensures.items (
    last_found facts c.args.key n c.as_slice-sorted.ensures.sorted c.count_before-count.ensures.point _ (omega arith) bound
    (same_default facts (n - 1) _ _ (omega (arith, bound)))
    )

pub returns-else-count-eq0-clause-greatest : goal.returns-else-count-eq0-clause-greatest
returns-else-count-eq0-clause-greatest c =
    let facts = c.args.facts.now in
    let n = c.count_before-count.result in
    let bound = c.count_before-count.ensures.bound in
    rw c.as_slice-sorted.ensures.items (
    greatest facts c.args.key n c.as_slice-sorted.ensures.sorted c.count_before-count.ensures.point _ (omega arith) bound
    (same_default facts (n - 1) _ _ (omega (arith, bound)))
    )
