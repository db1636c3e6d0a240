use Rattle.std.proofs.Common.{ℕ, ◌≡◌, ◌≤◌, ◌++◌, arith, subst, List, [], length, drop, length-drop, ap, ◌∙◌, sym}
use Rattle.journal_facts.specs.Facts.{told_from}
use Rattle.journal_facts.specs.declared.fact.Fact.{Fact}
use Rattle.std.specs.Prelude.{Contains, IsPermutation}
use Rattle.std.proofs.lemmas.List.{append-nil, nil_from_length}
use Rattle.std.proofs.lemmas.List.Sorted.{Contains-permutation, IsPermutation-sym}
use Rattle.journal_facts.proofs.Told.{told_is}
use Rattle.journal_facts.proofs.telling.facts_of.Goals as goal

nothing_left : {A : Type 0} (xs : List A) (i : ℕ) → length xs ≤ i → drop i xs ≡ []
nothing_left xs i past = nil_from_length (drop i xs) (omega (arith, length-drop i xs))

pub returns-clause-told : goal.returns-clause-told
returns-clause-told c = λ f.
    let seats = c.args.seats.now in
    let old = c.loop-i.facts.items in
    let new = c.sorted.result in
    let past : drop c.loop-i.i seats ≡ [] = nothing_left seats c.loop-i.i (omega arith) in
    let listed : old ≡ told_from 0 seats
    = sym (append-nil old) ∙ ap (λ rest. old ++ told_from c.loop-i.i rest) (sym past) ∙ c.loop-i.invariant in
    let perm : IsPermutation old new = c.sorted.ensures in
    let told = told_is seats f in (
      λ has. told.0 (subst (λ (xs : List Fact). Contains xs f) listed (Contains-permutation new old f (IsPermutation-sym old new perm) has)),
      λ t. Contains-permutation old new f perm (subst (λ (xs : List Fact). Contains xs f) (sym listed) (told.1 t)),
    )
