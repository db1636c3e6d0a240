-- What journals tell of affinity requests: one that is done was met, under its mask or a later one.
use Rattle.std.specs.Prelude.{◌<◌, ◌≤◌, ℕ, Option, IfSome}
use Rattle.handoff_data.specs.declared.entry.Entry.TheVariants as entry
use Rattle.handoff_data.specs.declared.mask.CpuMask.{CpuMask}
use Rattle.handoff_data.specs.History.{History}
use Rattle.handoff_data.specs.Mask.{HasCpu}
use Rattle.handoff_data.specs.Positions.{Stands, IsBefore, IsSomewhere}
use Rattle.handoff_data.specs.Rules.{StoodAt}

-- The task stood at a place where its change left it, and which a mask allows that it got at or after its mask r.
pub record StoodUnder (j : History) (t r : ℕ) : Type 0 where
  pub r' : ℕ
  pub not_before : r ≤ r'
  pub m : ℕ
  pub at : Option ℕ
  pub stood : IsSomewhere j (entry.Stood t r' m at)
  pub left_there : StoodAt j t m at
  pub mask : CpuMask
  pub set : IsSomewhere j (entry.Mask t r' mask)
  pub allows : IfSome at (λ c. HasCpu mask c)
  pub on_machine : IfSome at (λ c. c < j.cpus)

-- What stands behind a Done of mask r of t at the index of this seat's journal: that mask was set before, there, and
-- so was each lower one, anywhere; none of them is empty; and the task stood under it.
pub record DoneWasMet (j : History) (seat index t r : ℕ) : Type 0 where
  pub set : (mask : CpuMask) × IsBefore j seat index (entry.Mask t r mask)
  pub each : (n : ℕ) → 1 ≤ n → n ≤ r
      → (mask : CpuMask) × IsSomewhere j (entry.Mask t n mask) × ((c : ℕ) × HasCpu mask c)
  pub from_1 : 1 ≤ r
  pub met : StoodUnder j t r

-- each request that is done was met
abbrev pub RequestsAreMet : History → Type 0
RequestsAreMet j = (seat index t r : ℕ) → Stands j seat index (entry.Done t r) → DoneWasMet j seat index t r
