-- What is seen of the parts of a body.
use Rattle.std.specs.Prelude.{◌≡◌, ◌≤◌, List, [], ◌∷◌, Bool, true, false, Option, Some, None, IsSome}
use Rattle.task_script.specs.Plan.{sides}
use Rattle.pipe_bodies.specs.Courses.{plan_on}
use Rattle.pipe_tasks.specs.Words.{Line}
use Rattle.pipe_bodies.specs.Rings.{Ring, in_ring, out_ring, got, out_of, known, free_slots}
use Rattle.pipe_bodies.specs.Turns.{Seen, Known, Sound}
use Rattle.task_script.specs.declared.plan.Plan.{Plan}
use Rattle.pipe_bodies.specs.declared.parts.Parts.{Parts}
use Rattle.pipe_bodies.specs.declared.item.Item.{Item}
use Rattle.pipe_bodies.specs.declared.item.Item.TheVariants.{Text, End}

abbrev pub seen : {W : Type 0} → Parts W → Seen
seen a = record {
  got_left = got a.left;
  got_right = got a.right;
  out = out_of a.output a.kept a.ended;
  held = a.held;
  plan = plan_on a.plan;
  ended = a.ended;
}

pub record Rings : Type 0 where
  pub left : Option Ring
  pub right : Option Ring
  pub output : Option Ring

abbrev pub rings : {W : Type 0} → Parts W → Rings
rings a = record { left = in_ring a.left; right = in_ring a.right; output = out_ring a.output }

abbrev pub knows : {W : Type 0} → Parts W → Known
knows a = record { left = known a.left; right = known a.right; free = free_slots a.output }

-- what was put out stays, and so does what is known of the room for more
pub record StaysOut {W : Type 0} (a b : Parts W) : Type 0 where
  pub out : (seen b).out ≡ (seen a).out
  pub kept : b.kept ≡ a.kept
  pub ended : b.ended ≡ a.ended
  pub free : (knows b).free ≡ (knows a).free

-- an item is kept where nobody reads; the end takes no place there
abbrev pub KeepsLine : Item → Option Ring → Type 0
KeepsLine (Text a) None = Unit {0}
KeepsLine (Text a) (Some ring) = ⊥
KeepsLine End ring = ⊥

-- only these turns may take memory: a line is kept, or an item is made or taken
abbrev pub MayTakeMemory : List Item → Option Plan → Option Ring → Type 0
MayTakeMemory (i ∷ h) p ring = KeepsLine i ring
MayTakeMemory [] p ring = IsSome p

-- nothing is kept where another task reads
abbrev pub KeepsNone : Option Ring → List Line → Type 0
KeepsNone None kept = Unit {0}
KeepsNone (Some ring) kept = kept ≡ []

-- between turns nothing is on its way to what is held, unless memory has run out
abbrev pub IsClear : Bool → List Line → Type 0
IsClear true said = Unit {0}
IsClear false said = said ≡ []

-- the sides that a plan reads are there
abbrev pub IsJoined : Option Plan → Option Ring → Option Ring → Type 0
IsJoined None l r = Unit {0}
IsJoined (Some p) l r = (1 ≤ sides p → IsSome l) × (2 ≤ sides p → IsSome r)

-- what is known of a body that began with a plan: all of it, unless memory has run out in a turn
pub record Stands (begun : Plan) (a : Seen) (r : Rings) (broken : Bool) : Type 0 where
  pub sound : broken ≡ false → Sound begun a
  pub joined : broken ≡ false → IsJoined a.plan r.left r.right
  pub broken_open : broken ≡ true → a.ended ≡ false
