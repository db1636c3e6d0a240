use Rattle.std.specs.Prelude.{IsSorted}
use Rattle.std.proofs.Common.{◌≡◌, true, false, get_or}
use Rattle.std.specs.Ordering.{is_lt}
use Rattle.std.proofs.Common.{rules}
use Rattle.std.proofs.lemmas.Bool.{true_from_ne_false}
use Rattle.std.specs.List.Sorted.{IsPartitionedBy, IsPartitionPoint}
use Rattle.std.proofs.lemmas.List.Sorted.{sorted_far, IsPartitionPoint-from_clause}
use Rattle.journal_facts.specs.declared.fact.Fact.{Fact}
use Rattle.journal_facts.specs.Facts.{fact_cmp}
use Rattle.journal_facts.proofs.Lexical.{is_below, is_up_to, fact_ranks}
use Rattle.journal_facts.proofs.searching.count_before.Goals as goal

still : (x y z : Fact) → is_lt (fact_cmp y x) ≡ false → is_lt (fact_cmp y z) ≡ true → is_lt (fact_cmp x z) ≡ true
still x y z after before = true_from_ne_false _ (λ not.
    let f : is_lt (fact_cmp y z) ≡ false = fact_ranks.chain y x z after not in
    let t : is_lt (fact_cmp y z) ≡ true = before in
    cc)

pub returns-clause-point : goal.returns-clause-point
returns-clause-point c =
    let sorted = c.as_slice-sorted.result.now in
    let same = c.as_slice-sorted.ensures.items in
    let order : IsSorted fact_cmp sorted = rw same c.as_slice-sorted.ensures.sorted in
    let p = λ (y : Fact). is_lt (fact_cmp y c.args.key) in
    let parted : IsPartitionedBy p sorted = λ i j d low within holds.
    still (get_or sorted i d) (get_or sorted j d) c.args.key (sorted_far _ fact_ranks sorted order i j d low within) holds in
    let point : IsPartitionPoint (λ y. p y ≡ true) (λ y. p y ≡ false) sorted c.partition_point.result
    = IsPartitionPoint-from_clause p sorted c.partition_point.result c.partition_point.ensures.partitioned parted (λ a r q k. search rules) in
    rw (← same) (λ k d low high. is_below _ _ (point.0 k d low high), λ k d low high. is_up_to _ _ (point.1 k d low high))
