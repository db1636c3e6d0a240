-- What a course means: its plan.
use Rattle.std.specs.Prelude.{◌≡◌, ℕ, List, Option, Some, None, slice_index_or, slice_set, map}
use Rattle.std.specs.Option.{option_map}
use Rattle.task_script.specs.declared.plan.Plan.{Plan}
use Rattle.pipe_bodies.specs.declared.parts.Course.{Course}
use Rattle.pipe_bodies.specs.declared.parts.Course.TheVariants.{Own, Brought}

module _ {W : Type 0} where
  abbrev pub plan_in : Course W → Plan
  plan_in (Own p) = p
  plan_in (Brought p) = p

  abbrev pub plan_on : Option (Course W) → Option Plan
  plan_on None = None
  plan_on (Some c) = Some (plan_in c)

-- ---- works that are dealt by number, each seen as what it means, until it is taken

abbrev pub is_left : List (Option Plan) → ℕ → Option Plan
is_left works n = slice_index_or works n None

-- the plan of a task that has the work of this number, or its own where it has none
abbrev pub dealt_plan : List (Option Plan) → Option ℕ → Plan → Option Plan
dealt_plan works None p = Some p
dealt_plan works (Some n) p = is_left works n

-- the works that are left then
abbrev pub left_after : List (Option Plan) → Option ℕ → List (Option Plan)
left_after works None = works
left_after works (Some n) = slice_set works n None

-- what works mean that may have been taken
abbrev pub seen_works : {W : Type 0} → (W → Plan) → List (Option W) → List (Option Plan)
seen_works meaning works = map (option_map meaning) works
