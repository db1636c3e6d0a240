-- Journals have one verdict.
use Rattle.std.proofs.Common.{◌≡◌, ℕ, ◌<◌, ◌⊎◌, sym, refl, arith, subst, inl, inr}
use Rattle.std.proofs.lemmas.Bool.{cases_order}
use Rattle.handoff_data.specs.declared.entry.Entry.{Entry}
use Rattle.handoff_data.specs.History.{History}
use Rattle.handoff_data.specs.Legal.{Keeps, HasNoBad, HasEnded}
use Rattle.handoff_data.specs.Positions.{Stands, IsEarlier}
use Rattle.journal_legal.specs.declared.verdict.Verdict.{Verdict}
use Rattle.journal_legal.specs.declared.verdict.Verdict.TheVariants as verdict
use Rattle.journal_legal.specs.Verdicts.{IsFirstBad, IsLowestUnended, IsVerdict}
use Rattle.journal_legal.proofs.Earlier.{one-there}

-- a first bad entry is bad
pub not_both : (j : History) (s i r : ℕ) → HasNoBad j → IsFirstBad j s i r → ⊥
not_both j s i r none bad = bad.broken.broken (none s i bad.entry bad.stands r)

-- of two first bad entries neither is earlier
not_earlier : (j : History) (s i r s' i' r' : ℕ) → IsFirstBad j s i r → IsFirstBad j s' i' r' → IsEarlier s i s' i' → ⊥
not_earlier j s i r s' i' r' bad bad' earlier = bad.broken.broken (bad'.earlier s i bad.entry earlier bad.stands r)

-- at one position the rule is the lowest
not_lower : (j : History) (s i r r' : ℕ) → IsFirstBad j s i r → IsFirstBad j s i r' → r < r' → ⊥
not_lower j s i r r' bad bad' lower =
    let same : bad'.entry ≡ bad.entry = one-there j s i bad'.entry bad.entry bad'.stands bad.stands in
    bad.broken.broken (subst (λ (e : Entry). Keeps r j s i e) same (bad'.broken.lower_kept r lower))

order : (a b : ℕ) → (a < b → ⊥) → (b < a → ⊥) → a ≡ b
order a b no_less no_more =
    elim (cases_order a b) [
      | inl same ↦ same
      | inr (inl less) ↦ absurd (no_less less)
      | inr (inr more) ↦ absurd (no_more more)
    ]

two_bad : (j : History) (s i r s' i' r' : ℕ) → IsFirstBad j s i r → IsFirstBad j s' i' r' → verdict.FirstBad s i r ≡ verdict.FirstBad s' i' r'
two_bad j s i r s' i' r' bad bad' =
    let seats : s ≡ s' = order s s' (λ less. not_earlier j s i r s' i' r' bad bad' (inl less)) (λ more. not_earlier j s' i' r' s i r bad' bad (inl more)) in
    let indexes : i ≡ i' = order i i' (λ less. not_earlier j s i r s' i' r' bad bad' (inr (seats, less))) (λ more. not_earlier j s' i' r' s i r bad' bad (inr (sym seats, more))) in
    let here : IsFirstBad j s' i' r = subst (λ (k : ℕ). IsFirstBad j s' k r) indexes (subst (λ (x : ℕ). IsFirstBad j x i r) seats bad) in
    let rules : r ≡ r' = order r r' (not_lower j s' i' r r' here bad') (not_lower j s' i' r' r bad' here) in
    cc

two_unended : (j : History) (t t' : ℕ) → IsLowestUnended j t → IsLowestUnended j t' → verdict.Unended t ≡ verdict.Unended t'
two_unended j t t' one other =
    let same : t ≡ t' = order t t' (λ less. one.unended (other.lower_ended t less)) (λ more. other.unended (one.lower_ended t' more)) in
    cc

pub one-verdict : (j : History) (first second : Verdict) → IsVerdict j first → IsVerdict j second → first ≡ second
one-verdict j verdict.Legal verdict.Legal a b = refl
one-verdict j verdict.Legal (verdict.FirstBad s i r) a b = absurd (not_both j s i r a.no_bad b)
one-verdict j verdict.Legal (verdict.Unended t) a b = absurd (b.unended (a.ended t b.within))
one-verdict j (verdict.FirstBad s i r) verdict.Legal a b = absurd (not_both j s i r b.no_bad a)
one-verdict j (verdict.FirstBad s i r) (verdict.FirstBad s' i' r') a b = two_bad j s i r s' i' r' a b
one-verdict j (verdict.FirstBad s i r) (verdict.Unended t) a b = absurd (not_both j s i r b.no_bad a)
one-verdict j (verdict.Unended t) verdict.Legal a b = absurd (a.unended (b.ended t a.within))
one-verdict j (verdict.Unended t) (verdict.FirstBad s i r) a b = absurd (not_both j s i r a.no_bad b)
one-verdict j (verdict.Unended t) (verdict.Unended t') a b = two_unended j t t' a b
