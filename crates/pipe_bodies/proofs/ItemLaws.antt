-- Feeding a plan item by item gives the lines of whole lists.
use Rattle.std.proofs.Common.{◌≡◌, ℕ, zero, suc, List, [], ◌∷◌, ◌++◌, true, false, refl, sym, ap, ◌∙◌, append-nil}
use Rattle.std.specs.Prelude.{Option, Some, None}
use Rattle.task_script.specs.declared.plan.Plan.{Plan}
use Rattle.task_script.specs.declared.plan.Plan.TheVariants.{Lines, Count, Upper, Number, Keep, Drop, Tally, Cat, Weave, Pin, Table}
use Rattle.pipe_tasks.specs.Words.{Line}
use Rattle.pipe_tasks.specs.Plans.{wants, says, next, last, closed, made, lines_of}
use Rattle.pipe_tasks.specs.Feeds.{FeedingGivesLines}
use Rattle.pipe_bodies.proofs.FeedLaws.{lines_of-first, lines_of-second, lines_of-first_end, lines_of-first_ends, lines_of-second_end, lines_of-second_ends, lines_of-made, own_lines}
use Rattle.pipe_bodies.specs.Items.{texts, items, as_texts, outputs, ending, heard, after, makes, more, item_made, plan_made}
use Rattle.pipe_bodies.specs.declared.item.Item.{Item}
use Rattle.pipe_bodies.specs.declared.item.Item.TheVariants.{Text, End}

pub items-append : (a x : List Line) → items (a ++ x) ≡ as_texts a ++ items x
items-append [] x = refl
items-append (l ∷ a) x = ap (λ z. Text l ∷ z) (items-append a x)

items-ended : (a : List Line) → items a ≡ (as_texts a ++ End ∷ []) ++ []
items-ended [] = refl
items-ended (l ∷ a) = ap (λ z. Text l ∷ z) (items-ended a)

pub texts-items : (x : List Line) → texts (items x) ≡ x
texts-items [] = refl
texts-items (a ∷ x) = ap (λ z. a ∷ z) (texts-items x)

-- a plan that goes on after the end of a side reads that side no more
first_over : (p q : Plan) (x y : List Line) → wants p ≡ Some 0 → closed p 0 ≡ Some q → lines_of q [] y ≡ lines_of q x y
first_over (Lines left) q x y w e = cc
first_over (Count n l) q x y w e = cc
first_over Upper q x y w e = cc
first_over (Number n) q x y w e = cc
first_over (Keep prefix) q x y w e = cc
first_over (Drop prefix) q x y w e = cc
first_over (Tally n) q x y w e = cc
first_over (Cat zero) q x y w e = let same : Cat 1 ≡ q = cc in ap (λ z. lines_of z [] y) (sym same) ∙ ap (λ z. lines_of z x y) same
first_over (Cat (suc n)) q x y w e = cc
first_over (Weave zero false) q x y w e = let same : Weave 1 true ≡ q = cc in ap (λ z. lines_of z [] y) (sym same) ∙ ap (λ z. lines_of z x y) same
first_over (Weave (suc n) false) q x y w e = cc
first_over (Weave zero true) q x y w e = cc
first_over (Weave (suc n) true) q x y w e = cc
first_over (Pin left on) q x y w e = cc
first_over (Table table ends) q x y w e = cc

second_over : (p q : Plan) (x y : List Line) → wants p ≡ Some 1 → closed p 1 ≡ Some q → lines_of q x [] ≡ lines_of q x y
second_over (Lines left) q x y w e = cc
second_over (Count n l) q x y w e = cc
second_over Upper q x y w e = cc
second_over (Number n) q x y w e = cc
second_over (Keep prefix) q x y w e = cc
second_over (Drop prefix) q x y w e = cc
second_over (Tally n) q x y w e = cc
second_over (Cat zero) q x y w e = cc
second_over (Cat (suc n)) q x y w e = cc
second_over (Weave zero false) q x y w e = cc
second_over (Weave (suc n) false) q x y w e = let same : Weave 0 true ≡ q = cc in ap (λ z. lines_of z x []) (sym same) ∙ ap (λ z. lines_of z x y) same
second_over (Weave zero true) q x y w e = cc
second_over (Weave (suc n) true) q x y w e = cc
second_over (Pin left on) q x y w e = cc
second_over (Table table ends) q x y w e = cc

-- ---- an item

module _ (law : FeedingGivesLines) (p : Plan) (s t : List Item) where
  first_ended : (c : Option Plan) → wants p ≡ Some 0 → closed p 0 ≡ c → items (lines_of p [] (texts t)) ≡ (as_texts (last p 0) ++ ending c) ++ outputs c s t
  first_ended None w e = ap items (lines_of-first_ends law p (texts t) w e) ∙ items-ended (last p 0)
  first_ended (Some q) w e =
      ap items (lines_of-first_end law p q (texts t) w e) ∙ items-append (last p 0) (lines_of q [] (texts t))
      ∙ ap (λ z. as_texts (last p 0) ++ items z) (first_over p q (texts s) (texts t) w e) ∙ ap (λ z. z ++ outputs (Some q) s t) (sym (append-nil (as_texts (last p 0))))

  second_ended : (c : Option Plan) → wants p ≡ Some 1 → closed p 1 ≡ c → items (lines_of p (texts s) []) ≡ (as_texts (last p 1) ++ ending c) ++ outputs c s t
  second_ended None w e = ap items (lines_of-second_ends law p (texts s) w e) ∙ items-ended (last p 1)
  second_ended (Some q) w e =
      ap items (lines_of-second_end law p q (texts s) w e) ∙ items-append (last p 1) (lines_of q (texts s) [])
      ∙ ap (λ z. as_texts (last p 1) ++ items z) (second_over p q (texts s) (texts t) w e) ∙ ap (λ z. z ++ outputs (Some q) s t) (sym (append-nil (as_texts (last p 1))))

  pub item-left : (i : Item) → wants p ≡ Some 0 → outputs (Some p) (i ∷ s) t ≡ heard p 0 i ++ outputs (after p 0 i) s t
  item-left (Text a) w = ap items (lines_of-first law p a (texts s) (texts t) w) ∙ items-append (says p 0 a) (lines_of (next p 0 a) (texts s) (texts t))
  item-left End w = first_ended (closed p 0) w refl

  pub item-right : (i : Item) → wants p ≡ Some 1 → outputs (Some p) s (i ∷ t) ≡ heard p 1 i ++ outputs (after p 1 i) s t
  item-right (Text a) w = ap items (lines_of-second law p a (texts s) (texts t) w) ∙ items-append (says p 1 a) (lines_of (next p 1 a) (texts s) (texts t))
  item-right End w = second_ended (closed p 1) w refl

  made_items : (o : Option (Line × Plan)) → items (own_lines o (texts s) (texts t)) ≡ item_made o ++ outputs (plan_made o) s t
  made_items None = refl
  made_items (Some (line, q)) = refl

  pub source : wants p ≡ None → outputs (Some p) s t ≡ makes p ++ outputs (more p) s t
  source w = ap items (lines_of-made law p (texts s) (texts t) w) ∙ made_items (made p)

-- a plan wants side 0 or 1
pub side-below : (p : Plan) (k : ℕ) → wants p ≡ Some (suc k) → k ≡ 0
side-below (Lines left) k w = cc
side-below (Count n l) k w = cc
side-below Upper k w = cc
side-below (Number n) k w = cc
side-below (Keep prefix) k w = cc
side-below (Drop prefix) k w = cc
side-below (Tally n) k w = cc
side-below (Cat zero) k w = cc
side-below (Cat (suc n)) k w = cc
side-below (Weave zero ended) k w = cc
side-below (Weave (suc n) ended) k w = cc
side-below (Pin left on) k w = cc
side-below (Table table ends) k w = cc
