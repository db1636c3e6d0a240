-- What the last fact before a key says of all facts.
use Rattle.std.proofs.Common.{◌≡◌, ◌<◌, ◌≤◌, ◌+◌, ℕ, arith, inl, inr, List, subst, sym, refl}
use Rattle.std.specs.Prelude.{Contains}
use Rattle.journal_facts.specs.declared.fact.Fact.{Fact}
use Rattle.journal_facts.specs.declared.fact.Kind.{Kind}
use Rattle.journal_facts.specs.Facts.{here_on}
use Rattle.journal_facts.specs.Answers.{IsOn, IsLastIndex, IsHighest, Tells}
use Rattle.journal_facts.specs.Order.{Lex, IsBelow, IsUpTo}
use Rattle.journal_facts.proofs.KindNumbers.{same_kind_number, rebuilt}
use Rattle.journal_facts.proofs.Lexical.{squeeze}
use Rattle.journal_facts.proofs.Fronts.{told_as, at_least, between, up_front, Unit0}

abbrev IsGreatest : List Fact → Fact → Fact → Type 0
IsGreatest facts key f = (g : Fact) → Contains facts g → IsBelow g key → IsUpTo g f

-- the fact is of the journal, at an index of at least x and below i
pub record Caught (f : Fact) (k : Kind) (t s i x : ℕ) : Type 0 where
  pub on : IsOn f k t 0 0
  pub seat_is : f.seat ≡ s
  pub from : x ≤ f.index
  pub below : f.index < i

caught_by : (f : Fact) (k : Kind) (t s i x : ℕ) → IsUpTo (here_on k s x t 0 0) f → IsBelow f (here_on k s i t 0 0) → Caught f k t s i x
caught_by f k t s i x up below =
    let b = between k t 0 f _ _ up below in
    let c = squeeze _ _ _ _ b.low b.high in
    let d = squeeze _ _ _ _ c.1 c.2 in
    record { on = record { front = b.front; cpu_is = sym c.0 }; seat_is = sym d.0; from = d.1; below = d.2 }

module _ (facts : List Fact) (k : Kind) (t s i : ℕ) where
  pub below_key : (x : ℕ) → x < i → IsBelow (here_on k s x t 0 0) (here_on k s i t 0 0)
  below_key x less = up_front k t 0 _ (inr (refl, inr (refl, less)))

  module _ (f : Fact) (listed : Contains facts f) (below : IsBelow f (here_on k s i t 0 0)) (greatest : IsGreatest facts (here_on k s i t 0 0) f) where
    pub caught : (x : ℕ) → x < i → Contains facts (here_on k s x t 0 0) → Caught f k t s i x
    caught x less has = caught_by f k t s i x (greatest _ has (below_key x less)) below

    pub is_last : IsOn f k t 0 0 → f.seat ≡ s → IsLastIndex facts k t s i f.index
    is_last on es =
        let told : Contains facts (here_on k s f.index t 0 0) = told_as facts f k t 0 0 s f.index listed on.front on.cpu_is es refl in
        let same : f ≡ here_on k s f.index t 0 0 = rebuilt f k t 0 0 s f.index on.front.kind_is on.front.subject_is on.front.number_is on.cpu_is es refl in
        let own : IsUpTo (here_on k s f.index t 0 0) f
        = subst (λ (y : Fact). IsUpTo (here_on k s f.index t 0 0) y) (sym same) (up_front k t 0 _ (inr (refl, inr (refl, omega arith)))) in
        let c = caught_by f k t s i f.index own below in
        record {
          below = c.below;
          told = told;
          none_later = λ x later less has. let b = caught x less has in let from : x ≤ f.index = b.from in omega arith;
        }

none_zero : (x : ℕ) (P : Type 0) → Lex x 0 P → (P → ⊥) → ⊥
none_zero x P a f = elim a [ inl l ↦ omega arith | inr r ↦ f r.1 ]

nothing_below : (f : Fact) → Lex f.number 0 (Lex f.cpu 0 (Lex f.seat 0 (f.index < 0))) → ⊥
nothing_below f a = none_zero f.number _ a (λ b. none_zero f.cpu _ b (λ c. none_zero f.seat _ c (λ d. omega arith)))

module _ (facts : List Fact) (k : Kind) (t : ℕ) (f : Fact) (listed : Contains facts f) (below : IsBelow f (here_on k 0 0 (t + 1) 0 0))
    (greatest : IsGreatest facts (here_on k 0 0 (t + 1) 0 0) f) where
  -- each fact of the kind and subject has at most the number of the last
  pub about : (number : ℕ) (g : Tells facts k t number) → (f.kind ≡ k) × (f.subject ≡ t) × (number ≤ f.number)
  about number g =
      let up : IsUpTo (here_on k g.seat g.index t number g.cpu) f = greatest _ g.told (inr (refl, inl (omega arith))) in
      let x = squeeze _ _ _ _ up below in
      let low : t ≤ f.subject = at_least t f.subject _ x.1 in
      let high : f.subject < t + 1 = elim x.2 [ inl l ↦ l | inr r ↦ absurd (nothing_below f r.1) ] in
      let same : f.subject ≡ t = omega arith in
      let y = squeeze t f.subject _ Unit0 x.1 (inr (same, tt)) in
      (same_kind_number f.kind k (sym x.0), same, at_least number f.number _ y.1)

  pub is_highest : f.kind ≡ k → f.subject ≡ t → IsHighest facts k t f
  is_highest ek es = record {
    listed = listed;
    is = rebuilt f k t f.number f.cpu f.seat f.index ek es refl refl refl refl;
    none_higher = λ number cpu seat index has. (about number (record { cpu = cpu; seat = seat; index = index; told = has })).2;
  }

pub below_next : (k : Kind) (t number cpu seat index : ℕ) → IsBelow (here_on k seat index t number cpu) (here_on k 0 0 (t + 1) 0 0)
below_next k t number cpu seat index = inr (refl, inl (omega arith))
