-- What a contract sees of a body.
use Rattle.std.specs.Prelude.{◌≡◌, ℕ, List, [], Bool, false, Option, Some, None}
use Rattle.pipe_bodies.specs.Rings.{Ring}
use Rattle.pipe_tasks.specs.Words.{Line}
use Rattle.pipe_bodies.specs.Turns.{Seen, Known}
use Rattle.pipe_bodies.specs.Parts.{Rings}
use Rattle.task_script.specs.declared.plan.Plan.{Plan}

-- what stays from the building of a body on
pub record Lasting : Type 0 where
  pub task : ℕ
  pub begun : Plan
  pub rings : Rings

pub record BodyView : Type 0 where
  pub lasting : Lasting
  pub seen : Seen
  pub known : Known
  pub kept : List Line
  pub broken : Bool

abbrev pub lasting_by : ℕ → Plan → Option Ring → Option Ring → Lasting
lasting_by task begun left right = record {
  task = task;
  begun = begun;
  rings = record { left = left; right = right; output = None };
}

abbrev pub joined_by : Lasting → Ring → Lasting
joined_by l ring = record l { rings = record l.rings { output = Some ring } }

-- ---- a body that has done nothing

abbrev pub fresh_seen : Plan → Seen
fresh_seen p = record { got_left = []; got_right = []; out = []; held = []; plan = Some p; ended = false }

-- the slots that the writer of an empty ring knows to be free are all of them; where nobody reads, there is always one
abbrev pub free_at_first : Option Ring → ℕ
free_at_first None = 1
free_at_first (Some ring) = ring.room

-- nothing was taken, held, put out or kept, no memory was refused, the plan is that of the build, and the rings are
-- empty
pub record IsFresh (b : BodyView) : Type 0 where
  pub seen : b.seen ≡ fresh_seen b.lasting.begun
  pub known : b.known ≡ record { left = []; right = []; free = free_at_first b.lasting.rings.output }
  pub kept : b.kept ≡ []
  pub unbroken : b.broken ≡ false

-- ---- the room of rings

abbrev pub IsOfRoom : ℕ → Option Ring → Type 0
IsOfRoom room None = Unit {0}
IsOfRoom room (Some ring) = ring.room ≡ room

-- each ring of a body has this room
pub record HasRoom (room : ℕ) (l : Lasting) : Type 0 where
  pub left : IsOfRoom room l.rings.left
  pub right : IsOfRoom room l.rings.right
  pub output : IsOfRoom room l.rings.output
