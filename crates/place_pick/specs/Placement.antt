-- Where a task may be put, and where it is put.
use Rattle.std.specs.Prelude.{◌≡◌, ◌≤◌, ℕ, Bool, Option, if◌then◌else◌, IfNone, IfSome}
use Rattle.handoff_data.specs.declared.mask.CpuMask.{CpuMask}
use Rattle.handoff_data.specs.Mask.{HasCpu}

-- A task may be put on the processor: its allowed pointer has it, and it is online where the task is
-- migration-disabled, and active where it isn't.
pub record IsAllowed (c : ℕ) (cpus_ptr : CpuMask) (disabled : Bool) (active online : CpuMask) : Type 0 where
  pub permitted : HasCpu cpus_ptr c
  pub usable : HasCpu (if disabled then online else active) c

-- the task may be put on some processor
abbrev pub HasAllowed : CpuMask → Bool → CpuMask → CpuMask → Type 0
HasAllowed cpus_ptr disabled active online = (c : ℕ) × IsAllowed c cpus_ptr disabled active online

-- the task may be put on no processor
abbrev pub HasNoAllowed : CpuMask → Bool → CpuMask → CpuMask → Type 0
HasNoAllowed cpus_ptr disabled active online = (c : ℕ) → ¬ IsAllowed c cpus_ptr disabled active online

-- A task that was last on `prev` is put on c: on `prev` where that is allowed, and else on the lowest that is.
pub record IsSelected (prev : ℕ) (cpus_ptr : CpuMask) (disabled : Bool) (active online : CpuMask) (c : ℕ) : Type 0 where
  pub allowed : IsAllowed c cpus_ptr disabled active online
  pub stays : IsAllowed prev cpus_ptr disabled active online → c ≡ prev
  pub lowest : ¬ IsAllowed prev cpus_ptr disabled active online → (k : ℕ) → IsAllowed k cpus_ptr disabled active online
      → c ≤ k

-- the processor is the lowest of the set
pub record IsLowest (mask : CpuMask) (c : ℕ) : Type 0 where
  pub member : HasCpu mask c
  pub least : (k : ℕ) → HasCpu mask k → c ≤ k

-- Nothing is allowed, so the task is put on the lowest active processor, and its mask becomes that of all processors.
pub record IsWidened (cpus_ptr : CpuMask) (disabled : Bool) (active online possible : CpuMask) (c : ℕ)
    (mask : CpuMask) : Type 0 where
  pub none : HasNoAllowed cpus_ptr disabled active online
  pub lowest : IsLowest active c
  pub all : mask ≡ possible

-- A task that was last on `prev` is put on c, and its mask is widened to the one that is given, or stays as it is.
pub record IsPlaced (prev : ℕ) (cpus_ptr : CpuMask) (disabled : Bool) (active online possible : CpuMask) (c : ℕ)
    (widened : Option CpuMask) : Type 0 where
  pub selected : IfNone widened (IsSelected prev cpus_ptr disabled active online c)
  pub anywhere : IfSome widened (IsWidened cpus_ptr disabled active online possible c)
