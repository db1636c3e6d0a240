use Rattle.std.proofs.Common.{◌<◌, subst, length, List}
use Rattle.journal_facts.specs.declared.fact.Fact.{Fact}
use Rattle.journal_facts.proofs.Points.{same_default, found, least}
use Rattle.journal_facts.proofs.searching.first_from.Goals as goal

pub returns-then-at-sorted-clause-found : goal.returns-then-at-sorted-clause-found
returns-then-at-sorted-clause-found c =
    let facts = c.args.facts.now in
    let n = c.count_before-at.result in
    let same = c.as_slice-sorted.ensures.items in
    let within : n < length facts = subst (λ (xs : List Fact). n < length xs) same c.if-at-sorted.true in
    rw same (found facts c.args.key n c.as_slice-sorted.ensures.sorted c.count_before-at.ensures.point _ within (same_default facts n _ _ within))

pub returns-then-at-sorted-clause-least : goal.returns-then-at-sorted-clause-least
returns-then-at-sorted-clause-least c =
    let facts = c.args.facts.now in
    let n = c.count_before-at.result in
    let same = c.as_slice-sorted.ensures.items in
    let within : n < length facts = subst (λ (xs : List Fact). n < length xs) same c.if-at-sorted.true in
    rw same (least facts c.args.key n c.as_slice-sorted.ensures.sorted c.count_before-at.ensures.point _ within (same_default facts n _ _ within))
