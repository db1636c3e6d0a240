-- What the first fact from a key on says of all facts.
use Rattle.std.proofs.Common.{◌≡◌, ◌<◌, ◌≤◌, ℕ, arith, inl, inr, List, subst, sym, ap, refl}
use Rattle.std.specs.Prelude.{Contains}
use Rattle.std.proofs.lemmas.Bool.{cases_lt}
use Rattle.handoff_data.specs.Positions.{IsEarlier}
use Rattle.journal_facts.specs.declared.fact.Fact.{Fact}
use Rattle.journal_facts.specs.declared.fact.Kind.{Kind}
use Rattle.journal_facts.specs.Facts.{here_on, kind_number}
use Rattle.journal_facts.specs.Answers.{HasFront, Tells, TellsOn, TellsBefore, TellsEarlier, TellsFrom}
use Rattle.journal_facts.specs.Order.{Lex, IsUpTo}
use Rattle.journal_facts.proofs.KindNumbers.{same_kind_number, rebuilt}
use Rattle.journal_facts.proofs.Lexical.{squeeze, from_zero}

-- a fact that is listed, by its fields
pub told_as : (facts : List Fact) (f : Fact) (k : Kind) (t m c s i : ℕ) → Contains facts f → HasFront f k t m → f.cpu ≡ c → f.seat ≡ s → f.index ≡ i
    → Contains facts (here_on k s i t m c)
told_as facts f k t m c s i listed front ec es ei =
    subst (λ (x : Fact). Contains facts x) (rebuilt f k t m c s i front.kind_is front.subject_is front.number_is ec es ei) listed

abbrev IsLeast : List Fact → Fact → Fact → Type 0
IsLeast facts key f = (g : Fact) → Contains facts g → IsUpTo key g → IsUpTo f g

module _ (facts : List Fact) (k : Kind) (t m : ℕ) (f : Fact) (listed : Contains facts f) where
  pub tells : HasFront f k t m → Tells facts k t m
  tells front = record { cpu = f.cpu; seat = f.seat; index = f.index; told = told_as facts f k t m f.cpu f.seat f.index listed front refl refl refl }

  pub tells_on : (c : ℕ) → HasFront f k t m → f.cpu ≡ c → TellsOn facts k t m c
  tells_on c front ec = record { seat = f.seat; index = f.index; told = told_as facts f k t m c f.seat f.index listed front ec refl refl }

  pub tells_before : (c s i : ℕ) → HasFront f k t m → f.cpu ≡ c → f.seat ≡ s → f.index < i → TellsBefore facts k t m c s i
  tells_before c s i front ec es below =
      record { before = f.index; below = below; told = told_as facts f k t m c s f.index listed front ec es refl }

  pub tells_earlier : (s i : ℕ) → HasFront f k t m → f.cpu ≡ 0 → IsEarlier f.seat f.index s i → TellsEarlier facts k t m s i
  tells_earlier s i front ec earlier = record {
    seat' = f.seat;
    index' = f.index;
    earlier = earlier;
    told = told_as facts f k t m 0 f.seat f.index listed front ec refl refl;
  }

  pub tells_from : f.kind ≡ k → f.subject ≡ t → m ≤ f.number → TellsFrom facts k t m
  tells_from ek es from = record {
    number' = f.number;
    from = from;
    cpu = f.cpu;
    seat = f.seat;
    index = f.index;
    told = told_as facts f k t f.number f.cpu f.seat f.index listed (record { kind_is = ek; subject_is = es; number_is = refl }) refl refl refl;
  }

abbrev pub Unit0 : Type 0
Unit0 = Unit {0}

sooner : (s i s' i' s'' i'' : ℕ) → Lex s s' (i ≤ i') → IsEarlier s' i' s'' i'' → IsEarlier s i s'' i''
sooner s i s' i' s'' i'' a b = elim a [
  | inl less ↦ elim b [ inl l ↦ inl (omega arith) | inr r ↦ let e : s' ≡ s'' = r.0 in inl (omega arith) ]
  | inr same ↦ let e : s ≡ s' = same.0 in let h : i ≤ i' = same.1 in
      elim b [ inl l ↦ inl (omega arith) | inr r ↦ let e' : s' ≡ s'' = r.0 in let l : i' < i'' = r.1 in inr (omega arith, omega arith) ]
]

from_lower : (x y : ℕ) (P : Type 0) → x ≤ y → P → Lex x y P
from_lower x y P le p = elim (cases_lt x y) [ inl less ↦ inl less | inr more ↦ inr (omega arith, p) ]

pub at_least : (x y : ℕ) (P : Type 0) → Lex x y P → x ≤ y
at_least x y P a = elim a [ inl l ↦ omega arith | inr r ↦ let e : x ≡ y = r.0 in omega arith ]

-- what the first fact from a key on has, where a fact with the key's front is listed
pub record Between (f : Fact) (k : Kind) (t m : ℕ) (P Q : Type 0) : Type 0 where
  pub front : HasFront f k t m
  pub low : P
  pub high : Q

pub between : (k : Kind) (t m : ℕ) (f : Fact) (P Q : Type 0) → Lex (kind_number k) (kind_number f.kind) (Lex t f.subject (Lex m f.number P))
    → Lex (kind_number f.kind) (kind_number k) (Lex f.subject t (Lex f.number m Q)) → Between f k t m P Q
between k t m f P Q a b =
    let x = squeeze _ _ _ _ a b in
    let y = squeeze _ _ _ _ x.1 x.2 in
    let z = squeeze _ _ _ _ y.1 y.2 in
    record {
      front = record { kind_is = same_kind_number f.kind k (sym x.0); subject_is = sym y.0; number_is = sym z.0 };
      low = z.1;
      high = z.2;
    }

pub up_front : (k : Kind) (t m : ℕ) (P : Type 0) → P → Lex (kind_number k) (kind_number k) (Lex t t (Lex m m P))
up_front k t m P p = inr (refl, inr (refl, inr (refl, p)))

module _ (facts : List Fact) (k : Kind) (t m : ℕ) where
  pub up_told : (g : Tells facts k t m) → IsUpTo (here_on k 0 0 t m 0) (here_on k g.seat g.index t m g.cpu)
  up_told g = up_front k t m _ (from_zero g.cpu _ (from_zero g.seat _ (omega arith)))

  pub up_told_on : (c : ℕ) (g : TellsOn facts k t m c) → IsUpTo (here_on k 0 0 t m c) (here_on k g.seat g.index t m c)
  up_told_on c g = up_front k t m _ (inr (refl, from_zero g.seat _ (omega arith)))

  pub up_told_before : (c s i : ℕ) (g : TellsBefore facts k t m c s i) → IsUpTo (here_on k s 0 t m c) (here_on k s g.before t m c)
  up_told_before c s i g = up_front k t m _ (inr (refl, inr (refl, omega arith)))

  pub up_told_earlier : (s i : ℕ) (g : TellsEarlier facts k t m s i) → IsUpTo (here_on k 0 0 t m 0) (here_on k g.seat' g.index' t m 0)
  up_told_earlier s i g = up_front k t m _ (inr (refl, from_zero g.seat' _ (omega arith)))

  pub up_told_from : (g : TellsFrom facts k t m) → IsUpTo (here_on k 0 0 t m 0) (here_on k g.seat g.index t g.number' g.cpu)
  up_told_from g = inr (refl, inr (refl, from_lower m g.number' _ g.from (from_zero g.cpu _ (from_zero g.seat _ (omega arith)))))

module _ (facts : List Fact) (k : Kind) (t m : ℕ) (f : Fact) where
  pub has_front : IsUpTo (here_on k 0 0 t m 0) f → IsLeast facts (here_on k 0 0 t m 0) f → Tells facts k t m → HasFront f k t m
  has_front up least g =
      (between k t m f _ _ up (least _ g.told (up_told facts k t m g))).front

  pub has_on : (c : ℕ) → IsUpTo (here_on k 0 0 t m c) f → IsLeast facts (here_on k 0 0 t m c) f → TellsOn facts k t m c → HasFront f k t m × (f.cpu ≡ c)
  has_on c up least g =
      let b = between k t m f _ _ up (least _ g.told (up_told_on facts k t m c g)) in
      (b.front, sym (squeeze _ _ _ _ b.low b.high).0)

  pub has_before : (c s i : ℕ) → IsUpTo (here_on k s 0 t m c) f → IsLeast facts (here_on k s 0 t m c) f → TellsBefore facts k t m c s i
      → HasFront f k t m × (f.cpu ≡ c) × (f.seat ≡ s) × (f.index < i)
  has_before c s i up least g =
      let b = between k t m f _ _ up (least _ g.told (up_told_before facts k t m c s i g)) in
      let x = squeeze _ _ _ _ b.low b.high in
      let y = squeeze _ _ _ _ x.1 x.2 in
      let h : f.index ≤ g.before = y.2 in
      (b.front, sym x.0, sym y.0, omega (arith, g.below))

  pub has_earlier : (s i : ℕ) → IsUpTo (here_on k 0 0 t m 0) f → IsLeast facts (here_on k 0 0 t m 0) f → TellsEarlier facts k t m s i
      → HasFront f k t m × (f.cpu ≡ 0) × IsEarlier f.seat f.index s i
  has_earlier s i up least g =
      let b = between k t m f _ _ up (least _ g.told (up_told_earlier facts k t m s i g)) in
      let x = squeeze _ _ _ _ b.low b.high in
      (b.front, sym x.0, sooner f.seat f.index g.seat' g.index' s i x.2 g.earlier)

  pub has_from : IsUpTo (here_on k 0 0 t m 0) f → IsLeast facts (here_on k 0 0 t m 0) f → TellsFrom facts k t m → (f.kind ≡ k) × (f.subject ≡ t)
  has_from up least g =
      let b = least _ g.told (up_told_from facts k t m g) in
      let x = squeeze _ _ _ _ up b in
      let y = squeeze _ _ _ _ x.1 x.2 in
      (same_kind_number f.kind k (sym x.0), sym y.0)

  -- the number of a fact from the key on, with the key's kind and subject
  pub from_key : f.kind ≡ k → f.subject ≡ t → IsUpTo (here_on k 0 0 t m 0) f → m ≤ f.number
  from_key ek es up =
      let x = squeeze (kind_number k) (kind_number f.kind) _ (Lex f.subject t Unit0) up (inr (ap kind_number ek, inr (es, tt))) in
      let y = squeeze t f.subject _ Unit0 x.1 x.2 in
      at_least m f.number _ y.1
