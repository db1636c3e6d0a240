-- A turn keeps what is known of a body.
use Rattle.std.proofs.Common.{◌≡◌, ℕ, zero, suc, ◌+◌, List, [], ◌∷◌, ◌++◌, refl, sym, ap, ◌∙◌, append_assoc, append-nil, Bool, true, false, subst, inl, inr}
use Rattle.std.specs.Prelude.{Option, Some, None, nat_lt, nat_le, if◌then◌else◌}
use Rattle.std.specs.Fmt.{decimal}
use Rattle.pipe_tasks.specs.Words.{Line}
use Rattle.pipe_tasks.specs.Plans.{wants, says, last, closed, made}
use Rattle.pipe_tasks.specs.Feeds.{FeedingGivesLines}
use Rattle.pipe_bodies.specs.Items.{as_texts, outputs, ending, heard, after, makes, more, item_made, plan_made}
use Rattle.pipe_bodies.specs.Rings.{Ring}
use Rattle.pipe_bodies.specs.Turns.{Seen, is_end, PutsOut, TakesFrom, Goes, GoesOn, TurnsBy, Turns, NoEnd, OneEnd, Ordered, Sound}
use Rattle.pipe_bodies.specs.Parts.{IsJoined}
use Rattle.task_script.specs.declared.plan.Plan.{Plan}
use Rattle.task_script.specs.declared.plan.Plan.TheVariants.{Lines, Count, Upper, Number, Keep, Drop, Tally, Cat, Weave, Pin, Table}
use Rattle.pipe_bodies.specs.declared.item.Item.{Item}
use Rattle.pipe_bodies.specs.declared.item.Item.TheVariants.{Text, End}
use Rattle.pipe_bodies.specs.declared.verdict.Verdict.{Verdict}
use Rattle.pipe_bodies.specs.declared.verdict.Then.TheVariants.{Exit}
use Rattle.pipe_bodies.proofs.ItemLaws.{item-left, item-right, source, side-below}

-- ---- the order of what is held

pub put-ordered : (e : Bool) (p : Option Plan) (i : Item) (h : List Item) → Ordered e p (i ∷ h) → Ordered (is_end i) p h
put-ordered true (Some p) i h o = absurd o
put-ordered true None i h o = cc
put-ordered false (Some p) (Text a) h o = o
put-ordered false (Some p) End h o = absurd o
put-ordered false None (Text a) h o = o
put-ordered false None End h o = o

pub NoEnd-texts : (x : List Line) → NoEnd (as_texts x)
NoEnd-texts [] = tt
NoEnd-texts (a ∷ x) = NoEnd-texts x

pub NoEnd-texts_nil : (x : List Line) → NoEnd (as_texts x ++ [])
NoEnd-texts_nil [] = tt
NoEnd-texts_nil (a ∷ x) = NoEnd-texts_nil x

pub OneEnd-texts : (x : List Line) → OneEnd (as_texts x ++ End ∷ [])
OneEnd-texts [] = refl
OneEnd-texts (a ∷ x) = OneEnd-texts x

ending-ordered : (x : List Line) (p : Option Plan) → Ordered false p (as_texts x ++ ending p)
ending-ordered x None = OneEnd-texts x
ending-ordered x (Some p) = NoEnd-texts_nil x

pub heard-ordered : (p : Plan) (side : ℕ) (i : Item) → Ordered false (after p side i) (heard p side i)
heard-ordered p side (Text a) = NoEnd-texts (says p side a)
heard-ordered p side End = ending-ordered (last p side) (closed p side)

made-ordered : (o : Option (Line × Plan)) → Ordered false (plan_made o) (item_made o)
made-ordered None = refl
made-ordered (Some (line, q)) = tt

pub going_on : (e : Bool) (p : Plan) (h : List Item) → Ordered e (Some p) h → e ≡ false
going_on true p h o = absurd o
going_on false p h o = refl

-- ---- the meaning

module _ (law : FeedingGivesLines) (begun : Plan) (a : Seen) (known : Sound begun a) where
  keeps-put : (i : Item) (h : List Item) → a.held ≡ i ∷ h → Sound begun (record a { out = a.out ++ i ∷ []; held = h; ended = is_end i })
  keeps-put i h e = record {
    faithful = λ s t. known.faithful s t ∙ ap (λ z. z ++ outputs a.plan s t) (ap (λ z. a.out ++ z) e ∙ sym (append_assoc a.out (i ∷ []) h));
    ordered = put-ordered a.ended a.plan i h (subst (λ z. Ordered a.ended a.plan z) e known.ordered);
  }

  module _ (p : Plan) (empty : a.held ≡ []) (running : a.plan ≡ Some p) where
    pub is_open : a.ended ≡ false
    is_open = going_on a.ended p a.held (subst (λ z. Ordered a.ended z a.held) running known.ordered)

    before : (s t : List Item) → outputs (Some begun) (a.got_left ++ s) (a.got_right ++ t) ≡ a.out ++ outputs (Some p) s t
    before s t = known.faithful s t ∙ ap (λ z. z ++ outputs a.plan s t) (ap (λ z. a.out ++ z) empty ∙ append-nil a.out) ∙ ap (λ z. a.out ++ outputs z s t) running

    keeps-left : (i : Item) → wants p ≡ Some 0 → Sound begun (record a { got_left = a.got_left ++ i ∷ []; held = heard p 0 i; plan = after p 0 i })
    keeps-left i w = record {
      faithful = λ s t. ap (λ z. outputs (Some begun) z (a.got_right ++ t)) (append_assoc a.got_left (i ∷ []) s) ∙ before (i ∷ s) t ∙ ap (λ z. a.out ++ z) (item-left law p s t i w)
          ∙ sym (append_assoc a.out (heard p 0 i) (outputs (after p 0 i) s t));
      ordered = rw is_open (heard-ordered p 0 i);
    }

    keeps-second : (i : Item) → wants p ≡ Some 1 → Sound begun (record a { got_right = a.got_right ++ i ∷ []; held = heard p 1 i; plan = after p 1 i })
    keeps-second i w = record {
      faithful = λ s t. ap (λ z. outputs (Some begun) (a.got_left ++ s) z) (append_assoc a.got_right (i ∷ []) t) ∙ before s (i ∷ t) ∙ ap (λ z. a.out ++ z) (item-right law p s t i w)
          ∙ sym (append_assoc a.out (heard p 1 i) (outputs (after p 1 i) s t));
      ordered = rw is_open (heard-ordered p 1 i);
    }

    keeps-right : (k : ℕ) (i : Item) → wants p ≡ Some (suc k) → Sound begun (record a { got_right = a.got_right ++ i ∷ []; held = heard p (suc k) i; plan = after p (suc k) i })
    keeps-right k i w =
        let first = side-below p k w in
        subst (λ n. Sound begun (record a { got_right = a.got_right ++ i ∷ []; held = heard p (suc n) i; plan = after p (suc n) i })) (sym first) (keeps-second i (w ∙ ap (λ n. Some (suc n)) first))

    keeps-source : wants p ≡ None → Sound begun (record a { held = makes p; plan = more p })
    keeps-source w = record {
      faithful = λ s t. before s t ∙ ap (λ z. a.out ++ z) (source law p s t w) ∙ sym (append_assoc a.out (makes p) (outputs (more p) s t));
      ordered = rw is_open (made-ordered (made p));
    }

  module _ (b : Seen) (v : Verdict) where
    same : b ≡ a → Sound begun b
    same e = subst (λ z. Sound begun z) (sym e) known

    by_put : (i : Item) (h : List Item) → a.held ≡ i ∷ h → PutsOut i h a b v → Sound begun b
    by_put i h e (inl t) = subst (λ z. Sound begun z) (sym t.0) (keeps-put i h e)
    by_put i h e (inr t) = same t.0

    by_take : (side : ℕ) (p : Plan) → a.held ≡ [] → a.plan ≡ Some p → wants p ≡ Some side → TakesFrom side p a b v → Sound begun b
    by_take zero p e r w (inl t) = subst (λ z. Sound begun z) (sym t.1) (keeps-left p e r t.0 w)
    by_take zero p e r w (inr t) = same t.0
    by_take (suc k) p e r w (inl t) = subst (λ z. Sound begun z) (sym t.1) (keeps-right p e r k t.0 w)
    by_take (suc k) p e r w (inr t) = same t.0

    by_wants : (w : Option ℕ) (p : Plan) → a.held ≡ [] → a.plan ≡ Some p → wants p ≡ w → Goes w p a b v → Sound begun b
    by_wants None p e r q t = subst (λ z. Sound begun z) (sym t.0) (keeps-source p e r q)
    by_wants (Some side) p e r q t = by_take side p e r q t

    by_plan : (q : Option Plan) → a.held ≡ [] → a.plan ≡ q → GoesOn q a b v → Sound begun b
    by_plan None e r t = same t.0
    by_plan (Some p) e r t = by_wants (wants p) p e r refl t

    by_held : (h : List Item) → a.held ≡ h → TurnsBy h a b v → Sound begun b
    by_held [] e t = by_plan a.plan e refl t
    by_held (i ∷ h) e t = by_put i h e t

    pub Sound-turn : Turns a b v → Sound begun b
    Sound-turn t = by_held a.held refl t

-- ---- the sides that are joined

after-joined : (p : Plan) (side : ℕ) (i : Item) (l r : Option Ring) → IsJoined (Some p) l r → IsJoined (after p side i) l r
after-joined (Lines x) side (Text a) l r j = j
after-joined (Count n m) side (Text a) l r j = j
after-joined Upper side (Text a) l r j = j
after-joined (Number n) side (Text a) l r j = j
after-joined (Keep f) side (Text a) l r j = j
after-joined (Drop f) side (Text a) l r j = j
after-joined (Tally n) side (Text a) l r j = j
after-joined (Cat turn) side (Text a) l r j = j
after-joined (Weave turn false) side (Text a) l r j = j
after-joined (Weave turn true) side (Text a) l r j = j
after-joined (Pin n on) side (Text a) l r j = j
after-joined (Table table ends) side (Text a) l r j = j
after-joined (Lines x) side End l r j = tt
after-joined (Count n m) side End l r j = tt
after-joined Upper side End l r j = tt
after-joined (Number n) side End l r j = tt
after-joined (Keep f) side End l r j = tt
after-joined (Drop f) side End l r j = tt
after-joined (Tally n) side End l r j = tt
after-joined (Cat zero) side End l r j = j
after-joined (Cat (suc k)) side End l r j = tt
after-joined (Weave turn false) side End l r j = j
after-joined (Weave turn true) side End l r j = tt
after-joined (Pin n on) side End l r j = tt
after-joined (Table table ends) side End l r j = tt

count-joined : (n m : ℕ) (b c : Bool) (l r : Option Ring) → IsJoined (Some (Count n m)) l r
    → IsJoined (plan_made (if b then Some (decimal n, (if c then Count (n + 1) m else Count 1 0)) else None)) l r
count-joined n m true true l r j = j
count-joined n m true false l r j = j
count-joined n m false c l r j = tt

more-joined : (p : Plan) (l r : Option Ring) → IsJoined (Some p) l r → IsJoined (more p) l r
more-joined (Lines []) l r j = tt
more-joined (Lines (a ∷ x)) l r j = j
more-joined (Count n m) l r j = count-joined n m (nat_le n m) (nat_lt n m) l r j
more-joined Upper l r j = tt
more-joined (Number n) l r j = tt
more-joined (Keep f) l r j = tt
more-joined (Drop f) l r j = tt
more-joined (Tally n) l r j = tt
more-joined (Cat turn) l r j = tt
more-joined (Weave turn ended) l r j = tt
more-joined (Pin n on) l r j = tt
more-joined (Table table ends) l r j = tt

module _ (a b : Seen) (v : Verdict) (l r : Option Ring) (known : IsJoined a.plan l r) where
  joined_same : b ≡ a → IsJoined b.plan l r
  joined_same e = subst (λ z. IsJoined z.plan l r) (sym e) known

  joined_at : (p : Plan) → a.plan ≡ Some p → IsJoined (Some p) l r
  joined_at p e = subst (λ z. IsJoined z l r) e known

  joined_put : (i : Item) (h : List Item) → PutsOut i h a b v → IsJoined b.plan l r
  joined_put i h (inl t) = subst (λ z. IsJoined z.plan l r) (sym t.0) known
  joined_put i h (inr t) = joined_same t.0

  joined_take : (side : ℕ) (p : Plan) → a.plan ≡ Some p → TakesFrom side p a b v → IsJoined b.plan l r
  joined_take zero p e (inl t) = subst (λ z. IsJoined z.plan l r) (sym t.1) (after-joined p 0 t.0 l r (joined_at p e))
  joined_take zero p e (inr t) = joined_same t.0
  joined_take (suc k) p e (inl t) = subst (λ z. IsJoined z.plan l r) (sym t.1) (after-joined p (suc k) t.0 l r (joined_at p e))
  joined_take (suc k) p e (inr t) = joined_same t.0

  joined_wants : (w : Option ℕ) (p : Plan) → a.plan ≡ Some p → Goes w p a b v → IsJoined b.plan l r
  joined_wants None p e t = subst (λ z. IsJoined z.plan l r) (sym t.0) (more-joined p l r (joined_at p e))
  joined_wants (Some side) p e t = joined_take side p e t

  joined_plan : (q : Option Plan) → a.plan ≡ q → GoesOn q a b v → IsJoined b.plan l r
  joined_plan None e t = joined_same t.0
  joined_plan (Some p) e t = joined_wants (wants p) p e t

  joined_held : (h : List Item) → TurnsBy h a b v → IsJoined b.plan l r
  joined_held [] t = joined_plan a.plan refl t
  joined_held (i ∷ h) t = joined_put i h t

  pub IsJoined-turn : Turns a b v → IsJoined b.plan l r
  IsJoined-turn t = joined_held a.held t

-- ---- a body that has ended stays as it is

module _ (a b : Seen) (v : Verdict) (ended : a.ended ≡ true) (ordered : Ordered a.ended a.plan a.held) where
  ended_plan : (q : Option Plan) → a.plan ≡ q → GoesOn q a b v → b ≡ a
  ended_plan None e t = t.0
  ended_plan (Some p) e t = let o : Ordered true (Some p) a.held = subst (λ z. Ordered true z a.held) e (subst (λ z. Ordered z a.plan a.held) ended ordered) in absurd o

  ended_nil : (q : Option Plan) (i : Item) (h : List Item) → Ordered true q (i ∷ h) → ⊥
  ended_nil None i h o = cc
  ended_nil (Some p) i h o = o

  ended_held : (h : List Item) → a.held ≡ h → TurnsBy h a b v → b ≡ a
  ended_held [] e t = ended_plan a.plan refl t
  ended_held (i ∷ h) e t = absurd (ended_nil a.plan i h (subst (λ z. Ordered true a.plan z) e (subst (λ z. Ordered z a.plan a.held) ended ordered)))

  pub ended-turn : Turns a b v → b ≡ a
  ended-turn t = ended_held a.held refl t

  over_plan : (q : Option Plan) → a.plan ≡ q → GoesOn q a b v → v.then ≡ Exit
  over_plan None e t = t.3
  over_plan (Some p) e t = let o : Ordered true (Some p) a.held = subst (λ z. Ordered true z a.held) e (subst (λ z. Ordered z a.plan a.held) ended ordered) in absurd o

  over_held : (h : List Item) → a.held ≡ h → TurnsBy h a b v → v.then ≡ Exit
  over_held [] e t = over_plan a.plan refl t
  over_held (i ∷ h) e t = absurd (ended_nil a.plan i h (subst (λ z. Ordered true a.plan z) e (subst (λ z. Ordered z a.plan a.held) ended ordered)))

  pub over-turn : Turns a b v → v.then ≡ Exit
  over-turn t = over_held a.held refl t

-- ---- an exit comes only once the end was put out

module _ (a b : Seen) (v : Verdict) (exit : v.then ≡ Exit) (ordered : Ordered a.ended a.plan a.held) where
  none_open : (e : Bool) → Ordered e None [] → e ≡ true
  none_open true o = refl
  none_open false o = absurd o

  exit_take : (side : ℕ) (p : Plan) → TakesFrom side p a b v → b.ended ≡ true
  exit_take zero p (inl t) = cc
  exit_take zero p (inr t) = cc
  exit_take (suc k) p (inl t) = cc
  exit_take (suc k) p (inr t) = cc

  exit_wants : (w : Option ℕ) (p : Plan) → Goes w p a b v → b.ended ≡ true
  exit_wants None p t = cc
  exit_wants (Some side) p t = exit_take side p t

  exit_plan : (q : Option Plan) → a.held ≡ [] → a.plan ≡ q → GoesOn q a b v → b.ended ≡ true
  exit_plan None e r t = ap (λ z. z.ended) t.0 ∙ none_open a.ended (subst (λ z. Ordered a.ended z []) r (subst (λ z. Ordered a.ended a.plan z) e ordered))
  exit_plan (Some p) e r t = exit_wants (wants p) p t

  exit_put : (i : Item) (h : List Item) → PutsOut i h a b v → b.ended ≡ true
  exit_put i h (inl t) = cc
  exit_put i h (inr t) = cc

  exit_held : (h : List Item) → a.held ≡ h → TurnsBy h a b v → b.ended ≡ true
  exit_held [] e t = exit_plan a.plan e refl t
  exit_held (i ∷ h) e t = exit_put i h t

  pub exit-turn : Turns a b v → b.ended ≡ true
  exit-turn t = exit_held a.held refl t
