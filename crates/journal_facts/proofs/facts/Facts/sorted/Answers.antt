use Rattle.std.proofs.Common.{◌+◌, ◌∙◌, ap, sym, get_or}
use Rattle.std.specs.Ordering.{is_lt}
use Rattle.journal_facts.proofs.Order.{fact_same}
use Rattle.journal_facts.proofs.facts.Facts.sorted.Goals as goal

pub invariant_of-result : goal.invariant_of-result
invariant_of-result c = λ k d lo hi.
    let facts = c.sort_unstable.new.self.items in
    ap is_lt (sym (fact_same (get_or facts (k + 1) d) (get_or facts k d))) ∙ c.sort_unstable.ensures.sorted k d lo hi
