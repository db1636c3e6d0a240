-- The order of facts in numbers.
use Rattle.std.proofs.Common.{◌≡◌, ◌<◌, ◌≤◌, ℕ, true, false, arith, inl, inr, refl, zero, suc}
use Rattle.std.specs.Ordering.{ordering_then, is_lt, MatchOrdering}
use Rattle.std.specs.declared.cmp.Ordering.{Ordering}
use Rattle.std.specs.declared.cmp.Ordering.TheVariants as ordering
use Rattle.std.specs.Cmp.{ranks, IsStrictWeakOrder, IsTotalOrder}
use Rattle.std.proofs.lemmas.Cmp.{nat_cmp_total, on_total, then_total}
use Rattle.std.proofs.lemmas.List.MinMax.{ranks_by}
use Rattle.journal_facts.specs.declared.fact.Fact.{Fact}
use Rattle.journal_facts.specs.Facts.{fact_cmp, kind_number}
use Rattle.journal_facts.specs.Order.{Lex, IsBelow, IsUpTo}

below_step : (x y : ℕ) (r o : Ordering) (P : Type 0) → MatchOrdering r (x < y) (x ≡ y) (y < x) → (is_lt o ≡ true → P) → is_lt (ordering_then r o) ≡ true → Lex x y P
below_step x y ordering.Less o P m f h = inl m
below_step x y ordering.Equal o P m f h = inr (m, f h)
below_step x y ordering.Greater o P m f h = absurd (cc)

last_below : (x y : ℕ) (r : Ordering) → MatchOrdering r (x < y) (x ≡ y) (y < x) → is_lt r ≡ true → x < y
last_below x y ordering.Less m h = m
last_below x y ordering.Equal m h = absurd (cc)
last_below x y ordering.Greater m h = absurd (cc)

pub is_below : (a b : Fact) → is_lt (fact_cmp a b) ≡ true → IsBelow a b
is_below a b h =
    below_step _ _ _ _ _ (ranks (kind_number a.kind) (kind_number b.kind)) (below_step _ _ _ _ _ (ranks a.subject b.subject)
    (below_step _ _ _ _ _ (ranks a.number b.number) (below_step _ _ _ _ _ (ranks a.cpu b.cpu)
    (below_step _ _ _ _ _ (ranks a.seat b.seat) (last_below _ _ _ (ranks a.index b.index)))))) h

up_step : (x y : ℕ) (r o : Ordering) (P : Type 0) → MatchOrdering r (x < y) (x ≡ y) (y < x) → (is_lt o ≡ false → P) → is_lt (ordering_then r o) ≡ false → Lex y x P
up_step x y ordering.Less o P m f h = absurd (cc)
up_step x y ordering.Equal o P m f h = inr (omega arith, f h)
up_step x y ordering.Greater o P m f h = inl m

last_up : (x y : ℕ) (r : Ordering) → MatchOrdering r (x < y) (x ≡ y) (y < x) → is_lt r ≡ false → y ≤ x
last_up x y ordering.Less m h = absurd (cc)
last_up x y ordering.Equal m h = omega arith
last_up x y ordering.Greater m h = omega arith

pub is_up_to : (a b : Fact) → is_lt (fact_cmp a b) ≡ false → IsUpTo b a
is_up_to a b h =
    up_step _ _ _ _ _ (ranks (kind_number a.kind) (kind_number b.kind)) (up_step _ _ _ _ _ (ranks a.subject b.subject)
    (up_step _ _ _ _ _ (ranks a.number b.number) (up_step _ _ _ _ _ (ranks a.cpu b.cpu)
    (up_step _ _ _ _ _ (ranks a.seat b.seat) (last_up _ _ _ (ranks a.index b.index)))))) h

fact_total : IsTotalOrder fact_cmp
fact_total =
    then_total (on_total (λ (f : Fact). kind_number f.kind) nat_cmp_total) (then_total (on_total (λ (f : Fact). f.subject) nat_cmp_total)
    (then_total (on_total (λ (f : Fact). f.number) nat_cmp_total) (then_total (on_total (λ (f : Fact). f.cpu) nat_cmp_total)
    (then_total (on_total (λ (f : Fact). f.seat) nat_cmp_total) (on_total (λ (f : Fact). f.index) nat_cmp_total)))))

pub fact_ranks : IsStrictWeakOrder (λ (x y : Fact). is_lt (fact_cmp x y))
fact_ranks = ranks_by fact_total (λ (x : Fact). x)

not_both : (x y : ℕ) (P Q : Type 0) → (P → Q → ⊥) → Lex x y P → Lex y x Q → ⊥
not_both x y P Q f a b = elim a [
  | inl l ↦ elim b [ inl r ↦ omega arith | inr r ↦ let e : y ≡ x = r.0 in omega arith ]
  | inr l ↦ let e : x ≡ y = l.0 in elim b [ inl r ↦ omega arith | inr r ↦ f l.1 r.1 ]
]

-- no fact is below one and not below it
pub not_below : (a b : Fact) → IsBelow a b → IsUpTo b a → ⊥
not_below a b =
    not_both _ _ _ _ (not_both _ _ _ _ (not_both _ _ _ _ (not_both _ _ _ _ (not_both _ _ _ _ (λ (l : a.index < b.index) (r : b.index ≤ a.index). omega arith)))))

-- between two that are the same there is only that
pub squeeze : (x y : ℕ) (P Q : Type 0) → Lex x y P → Lex y x Q → (x ≡ y) × P × Q
squeeze x y P Q a b = elim a [
  | inl l ↦ absurd (elim b [ inl r ↦ omega arith | inr r ↦ let e : y ≡ x = r.0 in omega arith ])
  | inr l ↦ let e : x ≡ y = l.0 in elim b [ inl r ↦ absurd (omega arith) | inr r ↦ (l.0, l.1, r.1) ]
]

-- nothing comes before 0
pub from_zero : (x : ℕ) (P : Type 0) → P → Lex 0 x P
from_zero zero P p = inr (refl, p)
from_zero (suc x) P p = inl (omega arith)
