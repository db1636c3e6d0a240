-- Ends in memory, as contracts see them.
use Rattle.std.specs.Prelude.{◌≡◌, ℕ, ◌+◌, ◌-◌, ◌^◌, min, List, Result, MatchResult}

-- the bytes that are left; the numbers of the calls that are to fail, counted from 0; how many calls there
-- were, and how many of them failed
pub record End : Type 0 where
  pub bytes : List ℕ
  pub fails : List ℕ
  pub calls : ℕ
  pub faults : ℕ

-- the bytes that were taken, and how many more there is room for; the rest as above
pub record Store : Type 0 where
  pub bytes : List ℕ
  pub room : ℕ
  pub fails : List ℕ
  pub calls : ℕ
  pub faults : ℕ

-- a count of 64 bits after one more, which stands still at its last value
abbrev pub one_more : ℕ → ℕ
one_more count = min (count + 1) (2 ^ 64 - 1)

-- a call that fails is one fault, and one that succeeds none
abbrev pub CountsFault : {T E : Type 0} → ℕ → ℕ → Result T E → Type 0
CountsFault before after result = MatchResult result (λ _. after ≡ before) (λ _. after ≡ one_more before)
