-- When a wake's mask matches a state.
use Rattle.std.specs.Prelude.{◌≢◌, bit_and}
use Rattle.handoff_data.specs.declared.state.State.{State}

-- they have a bit in common
abbrev pub Matches : State → State → Type 0
Matches state mask = bit_and state.0 mask.0 ≢ 0
