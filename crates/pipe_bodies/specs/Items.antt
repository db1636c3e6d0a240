-- What goes through a ring: lines, and one end.
use Rattle.std.specs.Prelude.{ℕ, List, [], ◌∷◌, ◌++◌, map, Bool, true, false, Option, Some, None}
use Rattle.task_script.specs.declared.plan.Plan.{Plan}
use Rattle.task_script.specs.declared.plan.Plan.TheVariants.{Lines, Count, Upper, Number, Keep, Drop, Tally, Cat, Weave}
use Rattle.task_script.specs.declared.plan.Plan.TheVariants.{Pin, Table}
use Rattle.pipe_tasks.specs.Words.{Line}
use Rattle.pipe_tasks.specs.Plans.{says, next, last, closed, made, lines_of}
use Rattle.pipe_bodies.specs.declared.item.Item.{Item}
use Rattle.pipe_bodies.specs.declared.item.Item.TheVariants.{Text, End}

-- the lines of a stream, up to its end
abbrev pub texts : List Item → List Line
texts [] = []
texts (Text a ∷ s) = a ∷ texts s
texts (End ∷ s) = []

-- lines as a stream with its end
abbrev pub items : List Line → List Item
items [] = End ∷ []
items (a ∷ x) = Text a ∷ items x

-- lines as items, with no end
abbrev pub as_texts : List Line → List Item
as_texts x = map Text x

-- the oldest item, if it stands apart, and those after it
abbrev pub first_and : Option Item → List Item → List Item
first_and None later = later
first_and (Some i) later = i ∷ later

-- the items that a plan still puts out, where two streams are still to come; a plan that has ended puts out nothing
abbrev pub outputs : Option Plan → List Item → List Item → List Item
outputs (Some p) s t = items (lines_of p (texts s) (texts t))
outputs None s t = []

abbrev pub ending : Option Plan → List Item
ending (Some p) = []
ending None = End ∷ []

-- what a plan puts out for an item of a side, and how it goes on
abbrev pub heard : Plan → ℕ → Item → List Item
heard p side (Text a) = as_texts (says p side a)
heard p side End = as_texts (last p side) ++ ending (closed p side)

abbrev pub after : Plan → ℕ → Item → Option Plan
after p side (Text a) = Some (next p side a)
after p side End = closed p side

-- what a source puts out next, and how it goes on
abbrev pub item_made : Option (Line × Plan) → List Item
item_made None = End ∷ []
item_made (Some (line, q)) = Text line ∷ []

abbrev pub plan_made : Option (Line × Plan) → Option Plan
plan_made None = None
plan_made (Some (line, q)) = Some q

abbrev pub makes : Plan → List Item
makes p = item_made (made p)

abbrev pub more : Plan → Option Plan
more p = plan_made (made p)

-- whether the task is to be migration-disabled
abbrev pub pinned : Option Plan → Bool
pinned None = false
pinned (Some (Lines left)) = false
pinned (Some (Count n l)) = false
pinned (Some Upper) = false
pinned (Some (Number n)) = false
pinned (Some (Keep prefix)) = false
pinned (Some (Drop prefix)) = false
pinned (Some (Tally n)) = false
pinned (Some (Cat turn)) = false
pinned (Some (Weave turn ended)) = false
pinned (Some (Pin left on)) = on
pinned (Some (Table table ends)) = false
