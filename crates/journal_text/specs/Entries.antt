-- What a line says of an entry.
use Rattle.std.specs.Prelude.{◌==◌, ◌^◌, ℕ, Bool, true, false, List, [], ◌∷◌, Option, Some, None, if◌then◌else◌, nat_lt}
use Rattle.std.specs.Prelude.{codes}
use Rattle.std.specs.List.{slice_split}
use Rattle.std.specs.Str.{bytes_eq}
use Rattle.handoff_data.specs.declared.entry.Entry.{Entry}
use Rattle.handoff_data.specs.declared.entry.Entry.TheVariants as entry
use Rattle.handoff_data.specs.declared.mask.CpuMask.{CpuMask}
use Rattle.handoff_data.specs.Mask.{mask_with, no_cpus}
use Rattle.journal_text.specs.declared.keyword.Keyword.{Keyword}
use Rattle.journal_text.specs.declared.keyword.Keyword.TheVariants as keyword
use Rattle.journal_text.specs.Fields.{◌>>=◌, field_at, number_of, u32_at, u64_at, two_of, three_of, ended}

abbrev pub is_comma : ℕ → Bool
is_comma b = b == 44

-- the processor whose number the word is
unfoldable pub cpu_of : List ℕ → Option ℕ
cpu_of word = number_of word >>= λ c. if nat_lt c 16 then Some c else None

-- the mask with all these processors as well, if each word is the number of one
abbrev pub mask_from : CpuMask → List (List ℕ) → Option CpuMask
mask_from mask [] = Some mask
mask_from mask (word ∷ words) = cpu_of word >>= λ c. mask_from (mask_with mask c) words

-- the mask that numbers parted by commas spell
unfoldable pub listed_mask_of : List ℕ → Option CpuMask
listed_mask_of word = mask_from no_cpus (slice_split is_comma word)

-- the mask that the word spells: a dash, or numbers parted by commas
unfoldable pub mask_of : List ℕ → Option CpuMask
mask_of word = if bytes_eq word (codes "-") then Some no_cpus else listed_mask_of word

-- how the task was queued
unfoldable pub by_list_of : List ℕ → Option Bool
by_list_of word =
    if bytes_eq word (codes "direct") then Some false
    else if bytes_eq word (codes "list") then Some true
    else None

-- where a task stood: a dash, or the number of a processor
unfoldable pub at_of : List ℕ → Option (Option ℕ)
at_of word = if bytes_eq word (codes "-") then Some None else number_of word >>= λ c. if nat_lt c (2 ^ 32)
    then Some (Some c) else None

unfoldable pub list_of : List ℕ → Option Entry
list_of bytes = do
  t ← u32_at bytes
  m ← u64_at t.1
  c ← u32_at m.1
  e ← u64_at c.1
  ended (entry.List t.0 m.0 c.0 e.0) e.1

unfoldable pub enq_of : List ℕ → Option Entry
enq_of bytes = do
  t ← u32_at bytes
  m ← u64_at t.1
  c ← u32_at m.1
  word ← field_at c.1
  by_list ← by_list_of word.0
  ended (entry.Enq t.0 m.0 c.0 by_list) word.1

unfoldable pub set_mask_of : List ℕ → Option Entry
set_mask_of bytes = do
  t ← u32_at bytes
  r ← u64_at t.1
  word ← field_at r.1
  mask ← mask_of word.0
  ended (entry.Mask t.0 r.0 mask) word.1

unfoldable pub stood_of : List ℕ → Option Entry
stood_of bytes = do
  t ← u32_at bytes
  r ← u64_at t.1
  m ← u64_at r.1
  word ← field_at m.1
  at ← at_of word.0
  ended (entry.Stood t.0 r.0 m.0 at) word.1

unfoldable pub refused_of : List ℕ → Option Entry
refused_of bytes = do
  x ← two_of bytes
  if nat_lt x.1 (2 ^ 16) then Some (entry.Refused x.0 record { 0 = x.1 }) else None

-- what a line says of an entry, by its keyword and what stands behind it
unfoldable pub entry_after : Keyword → List ℕ → Option Entry
entry_after keyword.New rest = three_of rest >>= λ x. Some (entry.New x.0 x.1 x.2)
entry_after keyword.Sleep rest = three_of rest >>= λ x. Some (entry.Sleep x.0 x.1 x.2)
entry_after keyword.Wake rest = two_of rest >>= λ x. Some (entry.Wake x.0 x.1)
entry_after keyword.List rest = list_of rest
entry_after keyword.Enq rest = enq_of rest
entry_after keyword.Out rest = three_of rest >>= λ x. Some (entry.Out x.0 x.1 x.2)
entry_after keyword.In rest = three_of rest >>= λ x. Some (entry.In x.0 x.1 x.2)
entry_after keyword.Die rest = three_of rest >>= λ x. Some (entry.Die x.0 x.1 x.2)
entry_after keyword.Pick rest = three_of rest >>= λ x. Some (entry.Pick x.0 x.1 x.2)
entry_after keyword.Finish rest = three_of rest >>= λ x. Some (entry.Finish x.0 x.1 x.2)
entry_after keyword.Mask rest = set_mask_of rest
entry_after keyword.Stood rest = stood_of rest
entry_after keyword.Done rest = two_of rest >>= λ x. Some (entry.Done x.0 x.1)
entry_after keyword.Offline rest = two_of rest >>= λ x. Some (entry.Offline x.0 x.1)
entry_after keyword.Up rest = two_of rest >>= λ x. Some (entry.Up x.0 x.1)
entry_after keyword.Refused rest = refused_of rest
entry_after keyword.Seat rest = None
entry_after keyword.End rest = None
