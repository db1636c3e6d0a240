-- Departures and returns of a processor, and what they may follow.
use Rattle.std.specs.Prelude.{◌≡◌, ◌+◌, ◌<◌, ℕ, true, Option, Some, None}
use Rattle.handoff_data.specs.declared.entry.Entry.{Entry}
use Rattle.handoff_data.specs.declared.entry.Entry.TheVariants as entry
use Rattle.handoff_data.specs.History.{History}
use Rattle.handoff_data.specs.Positions.{Stands, IsBefore, IsSomewhere}
use Rattle.handoff_data.specs.Rules.{InRange, OutageLeavesNone, HasNoTurn, IsLastTurn}

-- the last Offline or Up before the index in this journal, if there is one
abbrev pub IsTurnBefore : History → ℕ → ℕ → Option Entry → Type 0
IsTurnBefore j seat index None = HasNoTurn j seat index
IsTurnBefore j seat index (Some turn) = IsLastTurn j seat index turn

-- after this turn a processor may go offline in epoch e
abbrev pub MayGo : Option Entry → ℕ → Type 0
MayGo None e = e ≡ 0
MayGo (Some (entry.Up c last)) e = e ≡ last
MayGo (Some _) e = ⊥

-- after this turn a processor may come back in epoch e
abbrev pub MayReturn : Option Entry → ℕ → Type 0
MayReturn (Some (entry.Offline c last)) e = e ≡ last + 1
MayReturn _ e = ⊥

-- after this turn a processor is offline
abbrev pub IsGone : Option Entry → Type 0
IsGone (Some (entry.Offline c last)) = Unit {0}
IsGone _ = ⊥

-- if the entry is a listing, the journal of this seat queued it by list before the index
abbrev pub IsTakenBefore : History → ℕ → ℕ → Entry → Type 0
IsTakenBefore j seat index (entry.List t m c e) = IsBefore j seat index (entry.Enq t (m + 1) c true)
IsTakenBefore j seat index _ = Unit {0}

-- all that was listed to c in epoch e was queued by list before the index, in the journal of this seat
abbrev pub TakesAllOf : History → ℕ → ℕ → ℕ → ℕ → Type 0
TakesAllOf j seat index c e =
    (t m : ℕ) → IsSomewhere j (entry.List t m c e) → IsBefore j seat index (entry.Enq t (m + 1) c true)

-- what stands before the index in this journal is in range and leaves nothing listed
pub record KeptSoFar (j : History) (seat index : ℕ) : Type 0 where
  pub in_range : (before : ℕ) (entry : Entry) → before < index → Stands j seat before entry
      → InRange j seat before entry
  pub leaves_none : (before : ℕ) (entry : Entry) → before < index → Stands j seat before entry
      → OutageLeavesNone j seat before entry
