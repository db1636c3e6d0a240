-- What the law on feeding says of one item: what is put out for it, and what is still to come, make up the whole lines.
use Rattle.std.proofs.Common.{◌≡◌, List, [], ◌∷◌, ◌++◌, refl, sym}
use Rattle.std.specs.Prelude.{Option, Some, None}
use Rattle.task_script.specs.declared.plan.Plan.{Plan}
use Rattle.pipe_tasks.specs.Words.{Line}
use Rattle.pipe_tasks.specs.Plans.{wants, says, next, last, closed, made, lines_of}
use Rattle.pipe_tasks.specs.Feeds.{Feeds, FeedingGivesLines}
use Rattle.pipe_tasks.specs.Feeds.Feeds.{makes, made_all, first, first_end, first_ends, second, second_end, second_ends}

-- the lines of a source, from its next line on
abbrev pub own_lines : Option (Line × Plan) → List Line → List Line → List Line
own_lines None x y = []
own_lines (Some (line, q)) x y = line ∷ lines_of q x y

module _ (law : FeedingGivesLines) where
  gives : (p : Plan) (x y out : List Line) → Feeds p x y out → lines_of p x y ≡ out
  gives p x y out f = sym ((law p x y out).0 f)

  fed : (p : Plan) (x y : List Line) → Feeds p x y (lines_of p x y)
  fed p x y = (law p x y (lines_of p x y)).1 refl

  pub lines_of-first : (p : Plan) (line : Line) (x y : List Line) → wants p ≡ Some 0 → lines_of p (line ∷ x) y ≡ says p 0 line ++ lines_of (next p 0 line) x y
  lines_of-first p line x y w = gives p (line ∷ x) y _ (first w (fed (next p 0 line) x y))

  pub lines_of-second : (p : Plan) (line : Line) (x y : List Line) → wants p ≡ Some 1 → lines_of p x (line ∷ y) ≡ says p 1 line ++ lines_of (next p 1 line) x y
  lines_of-second p line x y w = gives p x (line ∷ y) _ (second w (fed (next p 1 line) x y))

  pub lines_of-first_end : (p q : Plan) (y : List Line) → wants p ≡ Some 0 → closed p 0 ≡ Some q → lines_of p [] y ≡ last p 0 ++ lines_of q [] y
  lines_of-first_end p q y w e = gives p [] y _ (first_end w e (fed q [] y))

  pub lines_of-first_ends : (p : Plan) (y : List Line) → wants p ≡ Some 0 → closed p 0 ≡ None → lines_of p [] y ≡ last p 0
  lines_of-first_ends p y w e = gives p [] y _ (first_ends w e)

  pub lines_of-second_end : (p q : Plan) (x : List Line) → wants p ≡ Some 1 → closed p 1 ≡ Some q → lines_of p x [] ≡ last p 1 ++ lines_of q x []
  lines_of-second_end p q x w e = gives p x [] _ (second_end w e (fed q x []))

  pub lines_of-second_ends : (p : Plan) (x : List Line) → wants p ≡ Some 1 → closed p 1 ≡ None → lines_of p x [] ≡ last p 1
  lines_of-second_ends p x w e = gives p x [] _ (second_ends w e)

  made_by : (o : Option (Line × Plan)) (p : Plan) (x y : List Line) → wants p ≡ None → made p ≡ o → lines_of p x y ≡ own_lines o x y
  made_by None p x y w m = gives p x y [] (made_all w m)
  made_by (Some (line, q)) p x y w m = gives p x y (line ∷ lines_of q x y) (makes w m (fed q x y))

  pub lines_of-made : (p : Plan) (x y : List Line) → wants p ≡ None → lines_of p x y ≡ own_lines (made p) x y
  lines_of-made p x y w = made_by (made p) p x y w refl
