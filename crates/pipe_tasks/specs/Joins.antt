-- A plan that reads two sides, one item at a time.
use Rattle.std.specs.Prelude.{◌≡◌, ◌<◌, ◌+◌, ℕ, zero, suc, List, [], ◌++◌, length, Bool, true, false, if◌then◌else◌}
use Rattle.task_script.specs.Plan.{sides}
use Rattle.task_script.specs.declared.plan.Plan.{Plan}
use Rattle.task_script.specs.declared.plan.Plan.TheVariants.{Lines, Count, Upper, Number, Keep, Drop, Tally, Cat, Weave}
use Rattle.task_script.specs.declared.plan.Plan.TheVariants.{Pin, Table}
use Rattle.pipe_tasks.specs.Words.{Line}
use Rattle.pipe_tasks.specs.Plans.{lines_of}

-- how many ends a plan with two sides is still to be told
abbrev pub ends_left : Plan → ℕ
ends_left (Lines left) = 0
ends_left (Count n last) = 0
ends_left Upper = 0
ends_left (Number n) = 0
ends_left (Keep prefix) = 0
ends_left (Drop prefix) = 0
ends_left (Tally n) = 0
ends_left (Cat zero) = 2
ends_left (Cat (suc n)) = 1
ends_left (Weave turn false) = 2
ends_left (Weave turn true) = 1
ends_left (Pin left on) = 0
ends_left (Table table ends) = 0

-- how many items a plan is still to take
abbrev pub items_left : Plan → List Line → List Line → ℕ
items_left p x y = ends_left p + length x + length y

-- the plan p, with x and y still to come and the lines `out` put out, took an item and went on as p' if `on`
pub record Advances (p : Plan) (x y out : List Line) (on : Bool) (p' : Plan) (x' y' out' : List Line) : Type 0 where
  pub lines : out' ++ (if on then lines_of p' x' y' else []) ≡ out ++ lines_of p x y
  pub two : on ≡ true → sides p' ≡ 2
  pub fewer : on ≡ true → items_left p' x' y' < items_left p x y
