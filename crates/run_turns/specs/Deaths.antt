-- Deaths among the entries told.
use Rattle.std.specs.Prelude.{◌≡◌, ℕ, List}
use Rattle.std.specs.List.{Contains}
use Rattle.handoff_data.specs.declared.entry.Entry.{Entry}
use Rattle.handoff_data.specs.declared.entry.Entry.TheVariants as entry
use Rattle.pipe_bodies.specs.declared.verdict.Then.TheVariants as verdict
use Rattle.run_turns.specs.declared.turn.Turned.{Turned}
use Rattle.run_turns.specs.declared.turn.Turned.TheVariants as turned

-- the death of t is told
pub record HasDied (told : List Entry) (t : ℕ) : Type 0 where
  pub m : ℕ
  pub c : ℕ
  pub within : Contains told (entry.Die t m c)

-- where the body of a turn has put out its end, its task has died
abbrev pub DiedBy : Turned → List Entry → Type 0
DiedBy turned.Idle told = Unit {0}
DiedBy (turned.Ran t v) told = v.then ≡ verdict.Exit → HasDied told t
