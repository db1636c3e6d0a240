-- When a count of faults has risen, and what that says of a call.
use Rattle.std.specs.Prelude.{◌≡◌, ℕ, ◌+◌, ◌-◌, ◌^◌, ◌≤◌, min, Result, MatchResult}

-- it is higher than before, or stands at its last value
abbrev pub Rose : ℕ → ℕ → Type 0
Rose before after = (before ≤ after) × (min (before + 1) (2 ^ 64 - 1) ≤ after)

-- a call that answers `Err` has raised the count of faults, and one that answers `Ok` has left it
abbrev pub HasCause : {T E : Type 0} → ℕ → ℕ → Result T E → Type 0
HasCause before after result = MatchResult result (λ _. after ≡ before) (λ _. Rose before after)
