-- The numbers that entries have.
use Rattle.std.specs.Prelude.{ℕ, Option, Some, None}
use Rattle.handoff_data.specs.declared.entry.Entry.{Entry}
use Rattle.handoff_data.specs.declared.entry.Entry.TheVariants as entry

-- the task and the number of a chain entry, which is a change of the task's `on_rq` word
abbrev pub change_of : Entry → Option (ℕ × ℕ)
change_of (entry.New t m c) = Some (t, m)
change_of (entry.Sleep t m c) = Some (t, m)
change_of (entry.Enq t m c by_list) = Some (t, m)
change_of (entry.Out t m c) = Some (t, m)
change_of (entry.In t m c) = Some (t, m)
change_of (entry.Die t m c) = Some (t, m)
change_of _ = None

-- the task and the number of a run entry, which is a change of the task's `on_cpu` word
abbrev pub run_of : Entry → Option (ℕ × ℕ)
run_of (entry.Pick t n c) = Some (t, n)
run_of (entry.Finish t n c) = Some (t, n)
run_of _ = None

-- The group of an entry with the numbers that no other entry of the group may have.
pub data Identity : Type 0 where
  Change : ℕ → ℕ → Identity
  Run : ℕ → ℕ → Identity
  Waking : ℕ → ℕ → Identity
  Listing : ℕ → ℕ → Identity
  Masking : ℕ → ℕ → Identity
  Leaving : ℕ → ℕ → Identity
  Returning : ℕ → ℕ → Identity

abbrev pub identity : Entry → Option Identity
identity (entry.New t m c) = Some (Change t m)
identity (entry.Sleep t m c) = Some (Change t m)
identity (entry.Wake t m) = Some (Waking t m)
identity (entry.List t m c e) = Some (Listing t m)
identity (entry.Enq t m c by_list) = Some (Change t m)
identity (entry.Out t m c) = Some (Change t m)
identity (entry.In t m c) = Some (Change t m)
identity (entry.Die t m c) = Some (Change t m)
identity (entry.Pick t n c) = Some (Run t n)
identity (entry.Finish t n c) = Some (Run t n)
identity (entry.Mask t r mask) = Some (Masking t r)
identity (entry.Stood t r m at) = None
identity (entry.Done t r) = None
identity (entry.Offline c e) = Some (Leaving c e)
identity (entry.Up c e) = Some (Returning c e)
identity (entry.Refused t state) = None
