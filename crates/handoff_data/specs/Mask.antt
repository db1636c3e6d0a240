-- Which processors a mask has.
use Rattle.std.specs.Prelude.{◌≡◌, ◌==◌, Bool, ◌^◌, ℕ, bit_or}
use Rattle.std.specs.Int.{bit_at}
use Rattle.handoff_data.specs.declared.mask.CpuMask.{CpuMask}

-- the processor is in the set
pub record HasCpu (mask : CpuMask) (c : ℕ) : Type 0 where
  pub bit : bit_at mask.bits c ≡ 1

-- the same, as a test
abbrev pub has_cpu : CpuMask → ℕ → Bool
has_cpu mask c = bit_at mask.bits c == 1

-- no processor is in the set
abbrev pub IsEmpty : CpuMask → Type 0
IsEmpty mask = (c : ℕ) → ¬ HasCpu mask c

-- the set of no processor
abbrev pub no_cpus : CpuMask
no_cpus = record { bits = 0 }

-- the set with this processor added
abbrev pub mask_with : CpuMask → ℕ → CpuMask
mask_with mask c = record { bits = bit_or mask.bits (2 ^ c) }
