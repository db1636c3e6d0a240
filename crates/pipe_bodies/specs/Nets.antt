-- Tasks that read earlier tasks, and the lines of each.
use Rattle.std.specs.Prelude.{◌≡◌, ◌≢◌, ◌<◌, ◌+◌, ℕ, List, [], ◌∷◌, ◌++◌, length, map, slice_index_or, slice_set, true}
use Rattle.std.specs.Prelude.{false, Option, Some, None, IsSome}
use Rattle.rtrb.specs.Ring.{sent}
use Rattle.rtrb.specs.declared.producer.Producer.{Producer}
use Rattle.task_script.specs.Plan.{sides}
use Rattle.task_script.specs.Forest.{reads}
use Rattle.pipe_tasks.specs.Tasks.{is_among}
use Rattle.pipe_tasks.specs.Words.{Line}
use Rattle.pipe_bodies.specs.Items.{items}
use Rattle.task_script.specs.declared.plan.Plan.{Plan}
use Rattle.pipe_bodies.specs.Rings.{Ring}
use Rattle.pipe_bodies.specs.Parts.{KeepsNone}
use Rattle.pipe_bodies.specs.Bodies.{Lasting, BodyView, IsFresh, HasRoom}
use Rattle.pipe_bodies.specs.declared.item.Item.{Item}
use Rattle.task_script.specs.declared.script.TaskDef.{TaskDef}

-- ---- tasks with other plans

abbrev pub with_plan : TaskDef → Plan → TaskDef
with_plan d p = record d { plan = p }

-- each task with the plan at its place, where there is one
abbrev pub with_plans : List TaskDef → List Plan → List TaskDef
with_plans [] ps = []
with_plans (d ∷ ds) [] = d ∷ ds
with_plans (d ∷ ds) (p ∷ ps) = with_plan d p ∷ with_plans ds ps

abbrev pub begun_in : Lasting → Plan
begun_in l = l.begun

-- each task with the plan with which the body at its place began
abbrev pub begun_tasks : List TaskDef → List Lasting → List TaskDef
begun_tasks ds ls = with_plans ds (map begun_in ls)

-- the tasks after the first
abbrev pub others : List ℕ → List ℕ
others [] = []
others (x ∷ from) = from

-- ---- which ring is read by whom

-- a side's ring is the one that the task at its other end writes
abbrev pub IsSide : List ℕ → Option Ring → List (Option Ring) → Type 0
IsSide [] ring outputs = ring ≡ None
IsSide (x ∷ from) ring outputs = (x < length outputs) × IsSome ring × (ring ≡ slice_index_or outputs x None)

-- a body of a task, after tasks that write these rings
pub record IsJoint (d : TaskDef) (l : Lasting) (outputs : List (Option Ring)) : Type 0 where
  pub number : l.task ≡ length outputs
  pub inputs : length d.from ≡ sides d.plan
  pub plan : l.begun ≡ d.plan
  pub left : IsSide d.from l.rings.left outputs
  pub right : IsSide (others d.from) l.rings.right outputs

abbrev pub IsNetAfter : List (Option Ring) → List TaskDef → List Lasting → Type 0
IsNetAfter outputs [] [] = Unit {0}
IsNetAfter outputs [] (l ∷ ls) = ⊥
IsNetAfter outputs (d ∷ ds) [] = ⊥
IsNetAfter outputs (d ∷ ds) (l ∷ ls) = IsJoint d l outputs × IsNetAfter (outputs ++ l.rings.output ∷ []) ds ls

abbrev pub output_in : Lasting → Option Ring
output_in l = l.rings.output

-- the bodies, in the order of their tasks, are joined as the script says, and a task that nobody reads has no ring
pub record IsNet (ds : List TaskDef) (ls : List Lasting) : Type 0 where
  pub joined : IsNetAfter [] ds ls
  pub unread : (t : ℕ) → is_among (reads ds) t ≡ false → slice_index_or (map output_in ls) t None ≡ None

abbrev pub lasting_of : BodyView → Lasting
lasting_of b = b.lasting

abbrev pub kept_of : BodyView → List Line
kept_of b = b.kept

abbrev pub output_of : BodyView → Option Ring
output_of b = b.lasting.rings.output

abbrev pub HasEnded : BodyView → Type 0
HasEnded b = b.seen.ended ≡ true

-- ---- what was sent

module _ {T A P : Type 0} where
  abbrev pub sent_by : Option (Producer T A P) → List T
  sent_by None = []
  sent_by (Some p) = sent p

-- a task has put out its lines: on its ring, or into what it keeps
pub record PutOut (ring : Option Ring) (past : List Item) (kept : List Line) (lines : List Line) : Type 0 where
  pub on_ring : IsSome ring → past ≡ items lines
  pub in_kept : ring ≡ None → kept ≡ lines
  pub none : KeepsNone ring kept

-- each task that is done has put out its lines
pub record AllPutOut (rings : List (Option Ring)) (pasts : List (List Item))
    (kept done : List (List Line)) : Type 0 where
  pub rings_length : length rings ≡ length done
  pub pasts_length : length pasts ≡ length done
  pub kept_length : length kept ≡ length done
  pub each : (t : ℕ) → t < length done
      → PutOut (slice_index_or rings t None) (slice_index_or pasts t []) (slice_index_or kept t [])
      (slice_index_or done t [])

abbrev pub first_of : List ℕ → Option ℕ
first_of [] = None
first_of (x ∷ from) = Some x

-- what was sent by the first task of a list, if there is one
abbrev pub input_past : List ℕ → List (List Item) → List Item
input_past [] pasts = []
input_past (x ∷ from) pasts = slice_index_or pasts x []

-- ---- tasks that can be joined one after another: each reads earlier tasks, and no task is read twice

abbrev pub NotIn : List ℕ → ℕ → Type 0
NotIn [] x = Unit {0}
NotIn (y ∷ ys) x = (x ≢ y) × NotIn ys x

-- the tasks that a task reads, after n tasks of which these were read
abbrev pub IsReading : ℕ → List ℕ → List ℕ → Type 0
IsReading n reads [] = Unit {0}
IsReading n reads (x ∷ from) = (x < n) × NotIn reads x × IsReading n (x ∷ reads) from

abbrev pub reads_on : List ℕ → List ℕ → List ℕ
reads_on [] reads = reads
reads_on (x ∷ from) reads = reads_on from (x ∷ reads)

abbrev pub CanBeJoinedAfter : ℕ → List ℕ → List TaskDef → Type 0
CanBeJoinedAfter n reads [] = Unit {0}
CanBeJoinedAfter n reads (d ∷ ds) = (length d.from ≡ sides d.plan) × IsReading n reads d.from
    × CanBeJoinedAfter (n + 1) (reads_on d.from reads) ds

-- all tasks that are read
abbrev pub reads_after : List ℕ → List TaskDef → List ℕ
reads_after reads [] = reads
reads_after reads (d ∷ ds) = reads_after (reads_on d.from reads) ds

abbrev pub CanBeJoined : List TaskDef → Type 0
CanBeJoined ds = CanBeJoinedAfter 0 [] ds

abbrev pub plan_for : TaskDef → Plan
plan_for d = d.plan

-- ---- bodies that are being joined

-- a body that has done nothing, all of whose rings have this room
pub record IsBegun (room : ℕ) (b : BodyView) : Type 0 where
  pub fresh : IsFresh b
  pub rooms : HasRoom room b.lasting

-- what does not change when a reader comes
pub record Part : Type 0 where
  pub task : ℕ
  pub begun : Plan
  pub left : Option Ring
  pub right : Option Ring

abbrev pub part_of : BodyView → Part
part_of b = record {
  task = b.lasting.task;
  begun = b.lasting.begun;
  left = b.lasting.rings.left;
  right = b.lasting.rings.right;
}

-- nobody reads the first task of a list yet
abbrev pub IsFree : List ℕ → List (Option Ring) → Type 0
IsFree [] outputs = Unit {0}
IsFree (x ∷ from) outputs = (x < length outputs) × (slice_index_or outputs x None ≡ None)

-- a new ring joins a side to the first task of a list, if there is one
abbrev pub Links : List ℕ → List (Option Ring) → List (Option Ring) → Option Ring → Type 0
Links [] a b ring = (b ≡ a) × (ring ≡ None)
Links (x ∷ from) a b ring = IsSome ring × (b ≡ slice_set a x ring)

abbrev pub SideIn : List ℕ → Option Ring → ℕ → List (Option Ring) → Type 0
SideIn [] ring n outputs = ring ≡ None
SideIn (x ∷ from) ring n outputs = (x < n) × IsSome ring × (ring ≡ slice_index_or outputs x None)

pub record JointIn (d : TaskDef) (p : Part) (n : ℕ) (outputs : List (Option Ring)) : Type 0 where
  pub number : p.task ≡ n
  pub inputs : length d.from ≡ sides d.plan
  pub plan : p.begun ≡ d.plan
  pub left : SideIn d.from p.left n outputs
  pub right : SideIn (others d.from) p.right n outputs

pub record Built (ds : List TaskDef) (reads : List ℕ) (parts : List Part) (outputs : List (Option Ring)) : Type 0 where
  pub parts_length : length parts ≡ length ds
  pub outputs_length : length outputs ≡ length ds
  pub joints : (k : ℕ) (d : TaskDef) (p : Part) → k < length ds
      → JointIn (slice_index_or ds k d) (slice_index_or parts k p) k outputs
  pub unread : (x : ℕ) → NotIn reads x → slice_index_or outputs x None ≡ None
