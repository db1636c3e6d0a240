-- What each script is, whatever its bytes are: its machine, its names, and its plans as they begin.
use Rattle.std.specs.Prelude.{◌≡◌, ◌≢◌, ℕ, ◌*◌, ◌<◌, ◌≤◌, false, IsTrue, List, [], length, ◌^◌, map, Some, None, All}
use Rattle.std.specs.Prelude.{AllPairs, ⊤}
use Rattle.std.specs.List.{last_or, filter_map}
use Rattle.std.specs.Option.{is_some}
use Rattle.handoff_data.specs.Line.{IsLine}
use Rattle.handoff_data.specs.Shape.{IsShape}
use Rattle.handoff_data.specs.declared.shape.Shape.{Shape}
use Rattle.task_script.specs.declared.plan.Plan.{Plan}
use Rattle.task_script.specs.declared.plan.Plan.TheVariants.{Lines, Count, Upper, Number, Keep, Drop, Tally, Cat, Weave}
use Rattle.task_script.specs.declared.plan.Plan.TheVariants.{Pin, Table}
use Rattle.task_script.specs.declared.script.TaskDef.{TaskDef}
use Rattle.task_script.specs.Forms.{is_name}
use Rattle.task_script.specs.Maps.{identity_map}
use Rattle.task_script.specs.Plan.{is_table}

-- ---- the machine

-- a shape that a machine may have, of as many tasks as stand in the script, with two conditions each, and of no agent
pub record IsMachine (s : Shape) (tasks : List TaskDef) : Type 0 where
  pub valid : IsShape s
  pub counted : s.tasks ≡ length tasks
  pub conds : s.conds ≡ 2 * length tasks
  pub agents : s.agents ≡ 0

-- a ring has room for 1 to 64 items
abbrev pub IsRoom : ℕ → Type 0
IsRoom room = (1 ≤ room) × (room ≤ 64)

-- ---- names

abbrev pub names_of : List TaskDef → List (List ℕ)
names_of tasks = map (λ (d : TaskDef). d.name) tasks

-- each is a name, and none stands twice
pub record AreNames (names : List (List ℕ)) : Type 0 where
  pub named : All (λ name. IsTrue (is_name name)) names
  pub once : AllPairs (λ name other. name ≢ other) names

-- ---- plans

-- a text has no line feed, and no carriage return at its end
pub record IsText (text : List ℕ) : Type 0 where
  pub line : IsLine text
  pub no_return : last_or None text ≢ Some 13

-- a word has a byte at least, and no line feed, space or tab
pub record IsWord (word : List ℕ) : Type 0 where
  pub some : 0 < length word
  pub no_blank : All (λ byte. (byte ≢ 10) × (byte ≢ 32) × (byte ≢ 9)) word

-- a plan that has read and put out nothing yet
abbrev pub Begins : Plan → Type 0
Begins (Lines left) = All IsText left
Begins (Count n last) = (n ≡ 1) × (last ≤ 1000000)
Begins Upper = ⊤
Begins (Number n) = n ≡ 1
Begins (Keep prefix) = IsWord prefix
Begins (Drop prefix) = IsWord prefix
Begins (Tally n) = n ≡ 0
Begins (Cat side) = side ≡ 0
Begins (Weave side ended) = (side ≡ 0) × (ended ≡ false)
Begins (Pin left on) = (1 ≤ left) × (left ≤ 1000000) × (on ≡ false)
Begins (Table map last) = (map ≡ identity_map) × (last ≡ [])

abbrev pub AllBegin : List TaskDef → Type 0
AllBegin tasks = All (λ (d : TaskDef). Begins d.plan) tasks

-- ---- works that a caller brings

-- the numbers of the works that tasks have
abbrev pub works_of : List TaskDef → List ℕ
works_of tasks = filter_map (λ (d : TaskDef). d.custom) tasks

-- each number is below the number of works and has at most ten digits, none stands twice, and the tasks that have one
-- are those of a map
pub record AreCustoms (customs : ℕ) (tasks : List TaskDef) : Type 0 where
  pub below : All (λ number. number < customs) (works_of tasks)
  pub short : All (λ number. number < 10 ^ 10) (works_of tasks)
  pub once : AllPairs (λ number other. number ≢ other) (works_of tasks)
  pub plans : All (λ (d : TaskDef). is_some d.custom ≡ is_table d.plan) tasks
