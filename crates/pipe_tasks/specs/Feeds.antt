-- A plan at work, one item at a time.
use Rattle.std.specs.Prelude.{◌≡◌, ◌↔◌, List, [], ◌∷◌, ◌++◌, Some, None}
use Rattle.pipe_tasks.specs.Words.{Line}
use Rattle.pipe_tasks.specs.Plans.{wants, says, next, last, closed, made, lines_of}
use Rattle.task_script.specs.declared.plan.Plan.{Plan}

-- `Feeds p x y out`: the plan p is given the lines x on its first side and y on its second, and then their ends, one
-- item at a time and each from the side that it wants just then, or it makes lines of its own, and it puts out `out`
pub data Feeds : Plan → List Line → List Line → List Line → Type 0 where
  makes : {p q : Plan} {line : Line} {x y out : List Line} → wants p ≡ None → made p ≡ Some (line, q) → Feeds q x y out
      → Feeds p x y (line ∷ out)
  made_all : {p : Plan} {x y : List Line} → wants p ≡ None → made p ≡ None → Feeds p x y []
  first : {p : Plan} {line : Line} {x y out : List Line} → wants p ≡ Some 0 → Feeds (next p 0 line) x y out
      → Feeds p (line ∷ x) y (says p 0 line ++ out)
  first_end : {p q : Plan} {y out : List Line} → wants p ≡ Some 0 → closed p 0 ≡ Some q → Feeds q [] y out
      → Feeds p [] y (last p 0 ++ out)
  first_ends : {p : Plan} {y : List Line} → wants p ≡ Some 0 → closed p 0 ≡ None → Feeds p [] y (last p 0)
  second : {p : Plan} {line : Line} {x y out : List Line} → wants p ≡ Some 1 → Feeds (next p 1 line) x y out
      → Feeds p x (line ∷ y) (says p 1 line ++ out)
  second_end : {p q : Plan} {x out : List Line} → wants p ≡ Some 1 → closed p 1 ≡ Some q → Feeds q x [] out
      → Feeds p x [] (last p 1 ++ out)
  second_ends : {p : Plan} {x : List Line} → wants p ≡ Some 1 → closed p 1 ≡ None → Feeds p x [] (last p 1)

-- what a plan puts out item by item is its lines, as they are stated on whole lists
abbrev pub FeedingGivesLines : Type 0
FeedingGivesLines = (p : Plan) (x y out : List Line) → Feeds p x y out ↔ (out ≡ lines_of p x y)
