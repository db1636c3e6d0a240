-- The facts with one front stand together.
use Rattle.std.proofs.Common.{◌≡◌, ◌<◌, ◌≤◌, ◌↔◌, ℕ, arith, inl, inr, List, length, get_or, take, subst, sym, ◌∙◌, refl}
use Rattle.std.specs.Prelude.{Contains, IsSorted}
use Rattle.std.specs.List.{AllWithin}
use Rattle.std.proofs.lemmas.Bool.{cases_lt}
use Rattle.std.proofs.lemmas.List.{length-take-le, get_or-take}
use Rattle.journal_facts.specs.declared.fact.Fact.{Fact}
use Rattle.journal_facts.specs.declared.fact.Kind.{Kind}
use Rattle.journal_facts.specs.Facts.{here_on, fact_cmp}
use Rattle.journal_facts.specs.Answers.{IsOn}
use Rattle.journal_facts.specs.Order.{IsUpTo}
use Rattle.journal_facts.proofs.KindNumbers.{rebuilt}
use Rattle.journal_facts.proofs.Lexical.{squeeze, from_zero}
use Rattle.journal_facts.proofs.Fronts.{between, up_front}
use Rattle.journal_facts.proofs.Points.{rising, same_default}

-- a fact with the front isn't before the key
pub up_on : (f : Fact) (k : Kind) (t m c : ℕ) → IsOn f k t m c → IsUpTo (here_on k 0 0 t m c) f
up_on f k t m c on =
    let same : f ≡ here_on k f.seat f.index t m c
    = rebuilt f k t m c f.seat f.index on.front.kind_is on.front.subject_is on.front.number_is on.cpu_is refl refl in
    subst (λ (x : Fact). IsUpTo (here_on k 0 0 t m c) x) (sym same) (up_front k t m _ (inr (refl, from_zero f.seat _ (omega arith))))

-- what is between the key and a fact with its front has it
on_between : (f g : Fact) (k : Kind) (t m c : ℕ) → IsUpTo (here_on k 0 0 t m c) f → IsUpTo f g → IsOn g k t m c → IsOn f k t m c
on_between f g k t m c low high on =
    let same : g ≡ here_on k g.seat g.index t m c
    = rebuilt g k t m c g.seat g.index on.front.kind_is on.front.subject_is on.front.number_is on.cpu_is refl refl in
    let high' : IsUpTo f (here_on k g.seat g.index t m c) = subst (λ (x : Fact). IsUpTo f x) same high in
    let b = between k t m f _ _ low high' in
    record { front = b.front; cpu_is = sym (squeeze _ _ _ _ b.low b.high).0 }

module _ (facts rest : List Fact) (k : Kind) (t m c n : ℕ) (sorted : IsSorted fact_cmp rest)
    (all : (f : Fact) → Contains rest f ↔ (Contains facts f × IsUpTo (here_on k 0 0 t m c) f)) (bound : n ≤ length rest)
    (on : AllWithin (λ f. IsOn f k t m c) rest 0 n) (end : (d : Fact) → n < length rest → ¬ IsOn (get_or rest n d) k t m c) where
  pub run_is : (f : Fact) → Contains (take n rest) f ↔ (Contains facts f × IsOn f k t m c)
  run_is f = (
    λ h.
        let less : h.0 < n = omega (arith, h.1, length-take-le n rest bound) in
        let at : get_or rest h.0 f ≡ f = sym (get_or-take n rest h.0 f less) ∙ h.2 in
        (((all f).0 (h.0, omega arith, at)).0, subst (λ (x : Fact). IsOn x k t m c) at (on h.0 f (omega arith) less)),
    λ h.
        let has : Contains rest f = (all f).1 (h.0, up_on f k t m c h.1) in
        elim (cases_lt has.0 n) [
          | inl less ↦ (has.0, omega (arith, less, length-take-le n rest bound), get_or-take n rest has.0 f less ∙ has.2)
          | inr more ↦
              let inside : n < length rest = omega (arith, has.1) in
              let x = get_or rest n f in
              let own : get_or rest n x ≡ x = same_default rest n f x inside in
              let up : IsUpTo x f = rising rest sorted n has.0 x f more has.1 own has.2 in
              let low : IsUpTo (here_on k 0 0 t m c) x = ((all x).0 (n, inside, own)).1 in
              absurd (end f inside (on_between x f k t m c low up h.1))
        ],
  )
