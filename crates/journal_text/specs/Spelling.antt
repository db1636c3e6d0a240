-- The one way in which journals are written.
use Rattle.std.specs.Prelude.{◌+◌, ◌++◌, ℕ, Bool, true, false, List, [], ◌∷◌, Option, Some, None, length, map, filter}
use Rattle.std.specs.Prelude.{codes}
use Rattle.std.specs.Fmt.{decimal}
use Rattle.std.specs.List.{flat_map}
use Rattle.handoff_data.specs.declared.entry.Entry.{Entry}
use Rattle.handoff_data.specs.declared.entry.Entry.TheVariants as entry
use Rattle.handoff_data.specs.declared.mask.CpuMask.{CpuMask}
use Rattle.handoff_data.specs.History.{History}
use Rattle.handoff_data.specs.Mask.{has_cpu}

-- a number behind a space
abbrev pub field : ℕ → List ℕ
field n = 32 ∷ decimal n

abbrev pub fields : List ℕ → List ℕ
fields ns = flat_map field ns

-- the processors that there may be
abbrev pub all_cpus : List ℕ
all_cpus = 0 ∷ 1 ∷ 2 ∷ 3 ∷ 4 ∷ 5 ∷ 6 ∷ 7 ∷ 8 ∷ 9 ∷ 10 ∷ 11 ∷ 12 ∷ 13 ∷ 14 ∷ 15 ∷ []

-- the processors of a mask, ascending
abbrev pub members : CpuMask → List ℕ
members mask = filter (λ c. has_cpu mask c) all_cpus

-- a number behind a comma
abbrev pub behind_comma : ℕ → List ℕ
behind_comma n = 44 ∷ decimal n

abbrev pub listed_cpus : List ℕ → List ℕ
listed_cpus [] = codes "-"
listed_cpus (c ∷ cs) = decimal c ++ flat_map behind_comma cs

-- the processors of a mask, parted by commas, or a dash
unfoldable pub mask_text : CpuMask → List ℕ
mask_text mask = listed_cpus (members mask)

abbrev pub by_text : Bool → List ℕ
by_text false = codes " direct"
by_text true = codes " list"

abbrev pub at_text : Option ℕ → List ℕ
at_text None = codes " -"
at_text (Some c) = field c

-- the line of an entry
unfoldable pub entry_line : Entry → List ℕ
entry_line (entry.New t m c) = codes "new" ++ fields (t ∷ m ∷ c ∷ [])
entry_line (entry.Sleep t m c) = codes "sleep" ++ fields (t ∷ m ∷ c ∷ [])
entry_line (entry.Wake t m) = codes "wake" ++ fields (t ∷ m ∷ [])
entry_line (entry.List t m c e) = codes "list" ++ fields (t ∷ m ∷ c ∷ e ∷ [])
entry_line (entry.Enq t m c by_list) = (codes "enq" ++ fields (t ∷ m ∷ c ∷ [])) ++ by_text by_list
entry_line (entry.Out t m c) = codes "out" ++ fields (t ∷ m ∷ c ∷ [])
entry_line (entry.In t m c) = codes "in" ++ fields (t ∷ m ∷ c ∷ [])
entry_line (entry.Die t m c) = codes "die" ++ fields (t ∷ m ∷ c ∷ [])
entry_line (entry.Pick t n c) = codes "pick" ++ fields (t ∷ n ∷ c ∷ [])
entry_line (entry.Finish t n c) = codes "finish" ++ fields (t ∷ n ∷ c ∷ [])
entry_line (entry.Mask t r mask) = (codes "mask" ++ fields (t ∷ r ∷ [])) ++ (32 ∷ mask_text mask)
entry_line (entry.Stood t r m at) = (codes "stood" ++ fields (t ∷ r ∷ m ∷ [])) ++ at_text at
entry_line (entry.Done t r) = codes "done" ++ fields (t ∷ r ∷ [])
entry_line (entry.Offline c e) = codes "offline" ++ fields (c ∷ e ∷ [])
entry_line (entry.Up c e) = codes "up" ++ fields (c ∷ e ∷ [])
entry_line (entry.Refused t state) = codes "refused" ++ fields (t ∷ state.0 ∷ [])

-- the lines of the journals from this seat on
abbrev pub seat_lines : ℕ → List (List Entry) → List (List ℕ)
seat_lines seat [] = []
seat_lines seat (journal ∷ journals) =
    ((codes "seat" ++ fields (seat ∷ [])) ∷ map entry_line journal) ++ seat_lines (seat + 1) journals

-- the first four lines
abbrev pub first_lines : ℕ → ℕ → ℕ → List (List ℕ)
first_lines cpus tasks seats =
    codes "journal 1" ∷ (codes "cpus" ++ fields (cpus ∷ [])) ∷ (codes "tasks" ++ fields (tasks ∷ []))
    ∷ (codes "seats" ++ fields (seats ∷ [])) ∷ []

-- the lines of the journals
abbrev pub spelling : History → List (List ℕ)
spelling j = (first_lines j.cpus j.tasks (length j.seats) ++ seat_lines 0 j.seats) ++ (codes "end" ∷ [])
