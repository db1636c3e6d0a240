-- From one position to the next.
use Rattle.std.proofs.Common.{◌≡◌, ℕ, ◌+◌, ◌<◌, ◌≤◌, ◌⊎◌, List, Option, Some, None, length, ap, sym, ◌∙◌, refl, arith, subst, inl, inr}
use Rattle.std.specs.List.{slice_get}
use Rattle.std.specs.Option.{option_and_then}
use Rattle.std.proofs.lemmas.Bool.{cases_lt}
use Rattle.std.proofs.lemmas.Option.{slice_get_within}
use Rattle.handoff_data.specs.declared.entry.Entry.{Entry}
use Rattle.handoff_data.specs.History.{History}
use Rattle.handoff_data.specs.Legal.{Keeps, HasNoBad}
use Rattle.handoff_data.specs.Positions.{Stands, IsEarlier, entry_at}
use Rattle.journal_legal.specs.Judging.{KeepsAll, EarlierKeepAll}

abbrev in_journal : ℕ → Option (List Entry) → Option Entry
in_journal index journal = option_and_then (λ (entries : List Entry). slice_get entries index) journal

-- an entry of a seat's journal stands there
pub stands-at : (j : History) (seat index : ℕ) (entries : List Entry) (e : Entry) → slice_get j.seats seat ≡ Some entries → slice_get entries index ≡ Some e → Stands j seat index e
stands-at j seat index entries e journal at = record { at = ap (in_journal index) journal ∙ at }

found_in : (index : ℕ) (journal : Option (List Entry)) (e : Entry) → in_journal index journal ≡ Some e → (entries : List Entry) × (journal ≡ Some entries) × (slice_get entries index ≡ Some e)
found_in index None e is = absurd cc
found_in index (Some entries) e is = (entries, refl, is)

-- what stands there is within the seats, and within the journal
pub seat_within : (j : History) (seat index : ℕ) (e : Entry) → Stands j seat index e → seat < length j.seats
seat_within j seat index e stands =
    let found = found_in index (slice_get j.seats seat) e stands.at in
    slice_get_within j.seats seat found.0 found.1

index_within : (j : History) (seat index : ℕ) (entries : List Entry) (e : Entry) → slice_get j.seats seat ≡ Some entries → Stands j seat index e → index < length entries
index_within j seat index entries e journal stands =
    let at : slice_get entries index ≡ Some e = sym (ap (in_journal index) journal) ∙ stands.at in
    slice_get_within entries index e at

pub one-there : (j : History) (seat index : ℕ) (e e' : Entry) → Stands j seat index e → Stands j seat index e' → e ≡ e'
one-there j seat index e e' here there = let both : Some e ≡ Some e' = sym here.at ∙ there.at in cc

pub earlier_none : (j : History) → EarlierKeepAll j 0 0
earlier_none j seat index e earlier stands rule =
    elim earlier [
      | inl less ↦ absurd (omega arith)
      | inr same ↦ absurd (omega (arith, same.1))
    ]

-- the entry of the same seat that stands at an earlier index or at this one
here_kept : (j : History) (seat i index : ℕ) (e e' : Entry) → EarlierKeepAll j seat index → Stands j seat index e → KeepsAll j seat index e → i < index + 1 → Stands j seat i e' → KeepsAll j seat i e'
here_kept j seat i index e e' earlier stands kept less there rule =
    elim (cases_lt i index) [
      | inl before ↦ earlier seat i e' (inr (refl, before)) there rule
      | inr not_before ↦
          let at : index ≡ i = omega arith in
          let here : Stands j seat i e = subst (λ (k : ℕ). Stands j seat k e) at stands in
          let same : e ≡ e' = one-there j seat i e e' here there in
          subst (λ (x : Entry). Keeps rule j seat i x) same (subst (λ (k : ℕ). Keeps rule j seat k e) at (kept rule))
    ]

-- where the entry here keeps all rules too, each entry before the next index does
pub earlier_next : (j : History) (seat index : ℕ) (e : Entry) → EarlierKeepAll j seat index → Stands j seat index e → KeepsAll j seat index e → EarlierKeepAll j seat (index + 1)
earlier_next j seat index e earlier stands kept seat' index' e' before there rule =
    elim before [
      | inl less ↦ earlier seat' index' e' (inl less) there rule
      | inr same ↦
          let there' : Stands j seat index' e' = subst (λ (s : ℕ). Stands j s index' e') same.0 there in
          subst (λ (s : ℕ). Keeps rule j s index' e') (sym same.0) (here_kept j seat index' index e e' earlier stands kept same.1 there' rule)
    ]

-- the entry of an earlier seat or of this one
journal_kept : (j : History) (seat seat' index' : ℕ) (entries : List Entry) (e' : Entry) → slice_get j.seats seat ≡ Some entries → EarlierKeepAll j seat (length entries) → seat' < seat + 1
    → Stands j seat' index' e' → KeepsAll j seat' index' e'
journal_kept j seat seat' index' entries e' journal earlier less there rule =
    elim (cases_lt seat' seat) [
      | inl before ↦ earlier seat' index' e' (inl before) there rule
      | inr not_before ↦
          let at : seat' ≡ seat = omega arith in
          let here : Stands j seat index' e' = subst (λ (s : ℕ). Stands j s index' e') at there in
          earlier seat' index' e' (inr (at, index_within j seat index' entries e' journal here)) there rule
    ]

-- behind the last entry of a journal comes the next seat
pub earlier_seat : (j : History) (seat : ℕ) (entries : List Entry) → slice_get j.seats seat ≡ Some entries → EarlierKeepAll j seat (length entries) → EarlierKeepAll j (seat + 1) 0
earlier_seat j seat entries journal earlier seat' index' e' before there rule =
    elim before [
      | inl less ↦ journal_kept j seat seat' index' entries e' journal earlier less there rule
      | inr same ↦ absurd (omega (arith, same.1))
    ]

-- behind the last seat there is none
pub no_bad : (j : History) → EarlierKeepAll j (length j.seats) 0 → HasNoBad j
no_bad j earlier seat index e stands rule = earlier seat index e (inl (seat_within j seat index e stands)) stands rule
