-- How lists of members grow.
use Rattle.std.proofs.Common.{◌≡◌, ℕ, ◌+◌, ◌<◌, ◌⊎◌, ◌↔◌, List, Some, arith, subst, ap, ◌∙◌, inl, inr}
use Rattle.std.specs.Prelude.{slice_get}
use Rattle.std.proofs.lemmas.Bool.{cases_lt}
use Rattle.handoff_data.specs.declared.entry.Entry.{Entry}
use Rattle.handoff_data.specs.declared.mask.CpuMask.{CpuMask}
use Rattle.handoff_data.specs.Mask.{HasCpu}
use Rattle.journal_facts.specs.declared.fact.Fact.{Fact}
use Rattle.journal_facts.specs.Members.{IsJournalMember, IsEntryMember, member}

-- what is added twice is added at once
pub joined : {N M O A B C : Type 0} → N ↔ (M ⊎ A) → M ↔ (O ⊎ B) → (B ⊎ A) ↔ C → N ↔ (O ⊎ C)
joined new mid both = (
  λ n. elim (new.0 n) [
    | inl m ↦ elim (mid.0 m) [ inl o ↦ inl o | inr b ↦ inr (both.0 (inl b)) ]
    | inr a ↦ inr (both.0 (inr a))
  ],
  λ h. elim h [
    | inl o ↦ new.1 (inl (mid.1 (inl o)))
    | inr k ↦ elim (both.1 k) [ inl b ↦ new.1 (inl (mid.1 (inr b))) | inr a ↦ new.1 (inr a) ]
  ],
)

-- the same, where there was nothing before
pub joined_first : {N M A B C : Type 0} → N ↔ (M ⊎ A) → M ↔ B → (B ⊎ A) ↔ C → N ↔ C
joined_first new mid both = (
  λ n. elim (new.0 n) [ inl m ↦ both.0 (inl (mid.0 m)) | inr a ↦ both.0 (inr a) ],
  λ k. elim (both.1 k) [ inl b ↦ new.1 (inl (mid.1 b)) | inr a ↦ new.1 (inr a) ],
)

-- the fact names a processor of the mask below the limit
pub record CpuBelow (t r : ℕ) (mask : CpuMask) (limit : ℕ) (f : Fact) : Type 0 where
  pub cpu : ℕ
  pub below : cpu < limit
  pub has : HasCpu mask cpu
  pub is : f ≡ member t r cpu

pub next_cpu : (t r : ℕ) (mask : CpuMask) (n : ℕ) (f : Fact) → (CpuBelow t r mask n f ⊎ (HasCpu mask n × (f ≡ member t r n))) ↔ CpuBelow t r mask (n + 1) f
next_cpu t r mask n f = (
  λ h. elim h [
    | inl b ↦ record { cpu = b.cpu; below = omega arith; has = b.has; is = b.is }
    | inr a ↦ record { cpu = n; below = omega arith; has = a.0; is = a.1 }
  ],
  λ k. elim (cases_lt k.cpu n) [
    | inl less ↦ inl (record { cpu = k.cpu; below = less; has = k.has; is = k.is })
    | inr other ↦ let same : k.cpu ≡ n = omega (arith, k.below) in
        inr (subst (λ (x : ℕ). HasCpu mask x) same k.has, k.is ∙ ap (λ (x : ℕ). member t r x) same)
  ],
)

-- the fact names a processor of a mask among the entries before the limit
pub record EntryBelow (journal : List Entry) (limit : ℕ) (f : Fact) : Type 0 where
  pub index : ℕ
  pub below : index < limit
  pub entry : Entry
  pub at : slice_get journal index ≡ Some entry
  pub has : IsEntryMember entry f

pub next_entry : (journal : List Entry) (n : ℕ) (e : Entry) (f : Fact) → slice_get journal n ≡ Some e → (EntryBelow journal n f ⊎ IsEntryMember e f) ↔ EntryBelow journal (n + 1) f
next_entry journal n e f at = (
  λ h. elim h [
    | inl b ↦ record { index = b.index; below = omega arith; entry = b.entry; at = b.at; has = b.has }
    | inr a ↦ record { index = n; below = omega arith; entry = e; at = at; has = a }
  ],
  λ k. elim (cases_lt k.index n) [
    | inl less ↦ inl (record { index = k.index; below = less; entry = k.entry; at = k.at; has = k.has })
    | inr other ↦
        let same : k.index ≡ n = omega (arith, k.below) in
        let there : slice_get journal n ≡ Some k.entry = subst (λ (x : ℕ). slice_get journal x ≡ Some k.entry) same k.at in
        let equal : k.entry ≡ e = cc in
        inr (subst (λ (x : Entry). IsEntryMember x f) equal k.has)
  ],
)

-- the fact names a processor of a mask in the journals before the limit
pub record JournalBelow (journals : List (List Entry)) (limit : ℕ) (f : Fact) : Type 0 where
  pub seat : ℕ
  pub below : seat < limit
  pub journal : List Entry
  pub at : slice_get journals seat ≡ Some journal
  pub has : IsJournalMember journal f

pub next_journal : (journals : List (List Entry)) (n : ℕ) (j : List Entry) (f : Fact) → slice_get journals n ≡ Some j
    → (JournalBelow journals n f ⊎ IsJournalMember j f) ↔ JournalBelow journals (n + 1) f
next_journal journals n j f at = (
  λ h. elim h [
    | inl b ↦ record { seat = b.seat; below = omega arith; journal = b.journal; at = b.at; has = b.has }
    | inr a ↦ record { seat = n; below = omega arith; journal = j; at = at; has = a }
  ],
  λ k. elim (cases_lt k.seat n) [
    | inl less ↦ inl (record { seat = k.seat; below = less; journal = k.journal; at = k.at; has = k.has })
    | inr other ↦
        let same : k.seat ≡ n = omega (arith, k.below) in
        let there : slice_get journals n ≡ Some k.journal = subst (λ (x : ℕ). slice_get journals x ≡ Some k.journal) same k.at in
        let equal : k.journal ≡ j = cc in
        inr (subst (λ (x : List Entry). IsJournalMember x f) equal k.has)
  ],
)
