-- What one turn of a body does, and what stays true of a body.
use Rattle.std.specs.Prelude.{◌≡◌, ◌⊎◌, ℕ, zero, suc, List, [], ◌∷◌, ◌++◌, Bool, true, false, Option, Some, None}
use Rattle.pipe_tasks.specs.Plans.{wants}
use Rattle.pipe_bodies.specs.Items.{heard, after, makes, more, outputs, pinned}
use Rattle.task_script.specs.declared.plan.Plan.{Plan}
use Rattle.pipe_bodies.specs.declared.item.Item.{Item}
use Rattle.pipe_bodies.specs.declared.item.Item.TheVariants.{Text, End}
use Rattle.pipe_bodies.specs.declared.verdict.Verdict.{Verdict}
use Rattle.pipe_bodies.specs.declared.verdict.Then.{Then}
use Rattle.pipe_bodies.specs.declared.verdict.Then.TheVariants.{More, WaitIn, WaitOut, Exit}

-- what is seen of a body in its course
pub record Seen : Type 0 where
  pub got_left : List Item  -- taken from the left side
  pub got_right : List Item
  pub out : List Item  -- put out
  pub held : List Item  -- still to be put out
  pub plan : Option Plan  -- none once the end is held or put out
  pub ended : Bool  -- the end was put out

abbrev pub is_end : Item → Bool
is_end (Text a) = false
is_end End = true

-- the oldest held item goes out, or the ring handed it back
abbrev pub PutsOut : Item → List Item → Seen → Seen → Verdict → Type 0
PutsOut i h a b v =
    ((b ≡ record a { out = a.out ++ i ∷ []; held = h; ended = is_end i }) × (v.read ≡ None) × (v.wrote ≡ true)
    × (v.then ≡ More) × (v.pin ≡ pinned b.plan))
    ⊎ ((b ≡ a) × (v.read ≡ None) × (v.wrote ≡ false) × (v.then ≡ WaitOut) × (v.pin ≡ pinned b.plan))

-- an item is taken from the left or the right side, or nothing was there
abbrev pub TakesFrom : ℕ → Plan → Seen → Seen → Verdict → Type 0
TakesFrom zero p a b v =
    ((i : Item) × (b ≡ record a { got_left = a.got_left ++ i ∷ []; held = heard p 0 i; plan = after p 0 i })
    × (v.read ≡ Some 0) × (v.wrote ≡ false) × (v.then ≡ More) × (v.pin ≡ pinned b.plan))
    ⊎ ((b ≡ a) × (v.read ≡ None) × (v.wrote ≡ false) × (v.then ≡ WaitIn 0) × (v.pin ≡ pinned b.plan))
TakesFrom (suc k) p a b v =
    ((i : Item) × (b ≡ record a {
      got_right = a.got_right ++ i ∷ [];
      held = heard p (suc k) i;
      plan = after p (suc k) i;
    }) × (v.read ≡ Some (suc k)) × (v.wrote ≡ false) × (v.then ≡ More)
    × (v.pin ≡ pinned b.plan))
    ⊎ ((b ≡ a) × (v.read ≡ None) × (v.wrote ≡ false) × (v.then ≡ WaitIn (suc k)) × (v.pin ≡ pinned b.plan))

-- a source's next item, or an item of the side that the plan wants
abbrev pub Goes : Option ℕ → Plan → Seen → Seen → Verdict → Type 0
Goes None p a b v = (b ≡ record a { held = makes p; plan = more p }) × (v.read ≡ None) × (v.wrote ≡ false)
    × (v.then ≡ More) × (v.pin ≡ pinned b.plan)
Goes (Some side) p a b v = TakesFrom side p a b v

abbrev pub GoesOn : Option Plan → Seen → Seen → Verdict → Type 0
GoesOn None a b v = (b ≡ a) × (v.read ≡ None) × (v.wrote ≡ false) × (v.then ≡ Exit) × (v.pin ≡ pinned b.plan)
GoesOn (Some p) a b v = Goes (wants p) p a b v

-- one turn: the first case that applies
abbrev pub TurnsBy : List Item → Seen → Seen → Verdict → Type 0
TurnsBy (i ∷ h) a b v = PutsOut i h a b v
TurnsBy [] a b v = GoesOn a.plan a b v

abbrev pub Turns : Seen → Seen → Verdict → Type 0
Turns a b v = TurnsBy a.held a b v

-- ---- a turn that is refused memory

abbrev pub TakesNothing : Seen → Seen → Type 0
TakesNothing a b = (b.got_left ≡ a.got_left) × (b.got_right ≡ a.got_right)

-- one item is taken from the side that is wanted, and none from the other
abbrev pub TakesOne : Option ℕ → Seen → Seen → Type 0
TakesOne None a b = TakesNothing a b
TakesOne (Some zero) a b = ((i : Item) × (b.got_left ≡ a.got_left ++ i ∷ [])) × (b.got_right ≡ a.got_right)
TakesOne (Some (suc k)) a b = ((i : Item) × (b.got_right ≡ a.got_right ++ i ∷ [])) × (b.got_left ≡ a.got_left)

abbrev pub TakesBy : List Item → Option Plan → Seen → Seen → Type 0
TakesBy (i ∷ h) p a b = TakesNothing a b
TakesBy [] None a b = TakesNothing a b
TakesBy [] (Some p) a b = TakesOne (wants p) a b

-- what a refused turn has taken, which is what an answered one takes
abbrev pub RefusedTakes : Seen → Seen → Type 0
RefusedTakes a b = TakesBy a.held a.plan a b

-- ---- why a task waits

-- what the ends of a body's rings know
pub record Known : Type 0 where
  pub left : List Item  -- items that are there, on each side
  pub right : List Item
  pub free : ℕ  -- slots that are free

-- a task waits for a side where no item is known there, and for its reader where no slot is known to be free
abbrev pub WaitsFor : Then → Known → Type 0
WaitsFor More k = Unit {0}
WaitsFor (WaitIn zero) k = k.left ≡ []
WaitsFor (WaitIn (suc n)) k = k.right ≡ []
WaitsFor WaitOut k = k.free ≡ 0
WaitsFor Exit k = Unit {0}

-- ---- what stays true

-- whatever is still to come, the plan at build puts out for all of it what was put out, then what is held, then what
-- the plan puts out for the rest
abbrev pub Faithful : Plan → Seen → Type 0
Faithful begun a = (s t : List Item) → outputs (Some begun) (a.got_left ++ s) (a.got_right ++ t) ≡ (a.out ++ a.held)
    ++ outputs a.plan s t

abbrev pub NoEnd : List Item → Type 0
NoEnd [] = Unit {0}
NoEnd (Text a ∷ h) = NoEnd h
NoEnd (End ∷ h) = ⊥

abbrev pub OneEnd : List Item → Type 0
OneEnd [] = ⊥
OneEnd (Text a ∷ h) = OneEnd h
OneEnd (End ∷ h) = h ≡ []

-- the end is the last item that is held, and nothing is held once it is out
abbrev pub Ordered : Bool → Option Plan → List Item → Type 0
Ordered true (Some p) h = ⊥
Ordered true None h = h ≡ []
Ordered false (Some p) h = NoEnd h
Ordered false None h = OneEnd h

pub record Sound (begun : Plan) (a : Seen) : Type 0 where
  pub faithful : Faithful begun a
  pub ordered : Ordered a.ended a.plan a.held
