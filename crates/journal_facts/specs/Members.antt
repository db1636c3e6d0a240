-- Which processors the masks of journals have.
use Rattle.std.specs.Prelude.{◌≡◌, ℕ, List, Some, slice_get}
use Rattle.handoff_data.specs.declared.entry.Entry.{Entry}
use Rattle.handoff_data.specs.declared.entry.Entry.TheVariants as entry
use Rattle.handoff_data.specs.declared.mask.CpuMask.{CpuMask}
use Rattle.handoff_data.specs.Mask.{HasCpu}
use Rattle.journal_facts.specs.declared.fact.Fact.{Fact}
use Rattle.journal_facts.specs.declared.fact.Kind.TheVariants as kind

-- the fact that mask r of t has this processor
abbrev pub member : ℕ → ℕ → ℕ → Fact
member t r c = record { kind = kind.Member; subject = t; number = r; cpu = c; seat = 0; index = 0 }

-- the fact names a processor of this mask
pub record IsMaskMember (t r : ℕ) (mask : CpuMask) (f : Fact) : Type 0 where
  pub cpu : ℕ
  pub has : HasCpu mask cpu
  pub is : f ≡ member t r cpu

-- the fact names a processor of the mask that the entry sets
abbrev pub IsEntryMember : Entry → Fact → Type 0
IsEntryMember (entry.Mask t r mask) f = IsMaskMember t r mask f
IsEntryMember _ f = ⊥

-- the fact names a processor of some mask of this journal
pub record IsJournalMember (journal : List Entry) (f : Fact) : Type 0 where
  pub index : ℕ
  pub entry : Entry
  pub in_journal : slice_get journal index ≡ Some entry
  pub has : IsEntryMember entry f

-- the fact names a processor of some mask of these journals
pub record IsMember (journals : List (List Entry)) (f : Fact) : Type 0 where
  pub seat : ℕ
  pub journal : List Entry
  pub in_journals : slice_get journals seat ≡ Some journal
  pub has : IsJournalMember journal f
