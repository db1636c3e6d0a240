-- What each step tells the seat.
use Rattle.std.specs.Prelude.{◌≡◌, ◌≢◌, ℕ, ◌+◌, ◌%◌, ◌^◌, Bool, Some, List, [], ◌∷◌, map, slice_index_or}
use Rattle.atomic_table.specs.Table.{Me, Step, rest}
use Rattle.handoff_data.specs.declared.shape.Shape.{Shape}
use Rattle.word_rule.specs.Sorts.{Sort, lock_of, held_of, IsOf}
use Rattle.word_rule.specs.Told.{TakeTold}
use Rattle.word_steps.specs.Records.{Rec, Took, Gave, OutBody, HomeBody}
use Rattle.word_steps.specs.Words.{BODY}
use Rattle.word_steps.specs.declared.val.Val.{Val}
use Rattle.word_table.specs.Layout.{word_at, slot_at, slot_of, BODY_SLOT}
use Rattle.word_table.specs.Parts.{Part, Known}
use Rattle.word_table.specs.declared.slot.Slot.{Slot}
use Rattle.word_table.specs.declared.slot.Slot.TheVariants.{Held, Body}
use Rattle.word_table.specs.declared.view.View.{View}

abbrev pub part : ℕ → List Rec → Part
part s trace = record { number = s; trace = trace }

-- a view of one part
abbrev pub one : Known → Part → View
one known p = record { parts = p ∷ []; known = known }

abbrev pub trace_in : List Part → List Rec
trace_in [] = []
trace_in (p ∷ ps) = p.trace

abbrev pub seat_in : List Part → ℕ
seat_in [] = 0
seat_in (p ∷ ps) = p.number

abbrev pub no_shape : Shape
no_shape = record { cpus = 0; caches = 0; tasks = 0; conds = 0; agents = 0 }

-- the view of a seat that has no part
abbrev pub spent : View
spent = record { parts = []; known = record { shape = no_shape; lasting = [] } }

abbrev pub Sat : Type 0 → Type 0
Sat B = Me (Slot B) View

module _ {B : Type 0} where
  -- the seat at rest: no slot in its hand
  abbrev pub sat : Known → ℕ → List Rec → Sat B
  sat known s trace = (one known (part s trace), [])

  -- with the slot i in its hand
  abbrev pub holding : Known → ℕ → List Rec → ℕ → Slot B → Sat B
  holding known s trace i x = (one known (part s trace), (i, x) ∷ [])

  -- a seat of no part, with the slot i in its hand
  abbrev pub bare : ℕ → Slot B → Sat B
  bare i x = (spent, (i, x) ∷ [])

  abbrev pub push : Rec → Sat B → Sat B
  push r m = (record m.0 { parts = map (λ (p : Part). record p { trace = r ∷ p.trace }) m.0.parts }, m.1)

  abbrev pub lift : ℕ → Slot B → Sat B → Sat B
  lift i x m = (m.0, (i, x) ∷ m.1)

  abbrev pub lay : Sat B → Sat B
  lay m = (m.0, rest m.1)

  -- of a kind of step on one word: its column, its record, and what it tells of the word found
  module _ (col : ℕ) (note : ℕ → List Rec → ℕ → ℕ → ℕ → Rec) (told : Shape → ℕ → List Rec → ℕ → ℕ → Type 0) where
    -- the record of the seat's step
    abbrev pub noted : Sat B → ℕ → ℕ → ℕ → Sat B
    noted m n y x = push (note (seat_in m.0.parts) (trace_in m.0.parts) n y x) m

    -- what is told of the word x of n
    abbrev pub Tells : Sat B → ℕ → ℕ → Type 0
    Tells m n x = told m.0.known.shape (seat_in m.0.parts) (trace_in m.0.parts) n x

    -- the word became f of what it was
    abbrev pub became : (ℕ → ℕ) → Step (Slot B) → Sat B → ℕ → Sat B → Type 0
    became f st m x m' = (n : ℕ) → st.word ≡ word_at n col → Tells m n x × (m' ≡ noted m n (f x) x)

    abbrev pub loaded : Step (Slot B) → Sat B → ℕ → Sat B → Type 0
    loaded = became (λ x. x)

    -- it was raised by one
    abbrev pub added : Step (Slot B) → Sat B → ℕ → Sat B → Type 0
    added = became (λ x. (x + 1) % 2 ^ 64)

    abbrev pub stored : Step (Slot B) → Sat B → ℕ → Sat B → Type 0
    stored st m x m' = (n : ℕ) → st.word ≡ word_at n col → m' ≡ noted m n st.first st.first

    abbrev pub tried : Step (Slot B) → Sat B → ℕ → Sat B → Type 0
    tried st m x m' =
        (n : ℕ) → st.word ≡ word_at n col → (x ≡ st.first → Tells m n x × (m' ≡ noted m n st.second x))
        × (x ≢ st.first → m' ≡ m)

  -- the seat has the value of n in its hand, of which this is told
  abbrev pub Takes : Sort → ℕ → Sat B → Sat B → Type 0
  Takes sort n m m' =
      (v : Val) × IsOf sort v × TakeTold m.0.known.shape (seat_in m.0.parts) (trace_in m.0.parts) sort n v
      × (m' ≡ lift (slot_at n (slot_of sort)) (Held v) (push (Took n v) m))

  abbrev pub took : Sort → Step (Slot B) → Sat B → ℕ → Sat B → Type 0
  took sort st m x m' = (n : ℕ) → st.word ≡ word_at n (lock_of sort) → (x ≡ 0 → Takes sort n m m') × (x ≢ 0 → m' ≡ m)

  abbrev pub gave : Sort → Step (Slot B) → Sat B → ℕ → Sat B → Type 0
  gave sort st m x m' =
      (n : ℕ) (v w : Val) → st.word ≡ word_at n (lock_of sort) → held_of sort (trace_in m.0.parts) n ≡ Some v
      → m.1 ≡ (slot_at n (slot_of sort), Held w) ∷ rest m.1 → m' ≡ lay (push (Gave n v w) m)

  -- a body left its slot
  abbrev pub left : (B → List ℕ) → (B → Bool) → Step (Slot B) → Sat B → ℕ → Sat B → Type 0
  left lasting ended st m x m' =
      (t : ℕ) → st.word ≡ word_at t BODY
      → (b : B) × (m' ≡ lift (slot_at t BODY_SLOT) (Body b) (push (OutBody t (ended b)) m))
      × (lasting b ≡ slice_index_or m.0.known.lasting t [])

  -- a body came home
  abbrev pub came : (B → Bool) → Step (Slot B) → Sat B → ℕ → Sat B → Type 0
  came ended st m x m' =
      (t : ℕ) (b : B) → st.word ≡ word_at t BODY → m.1 ≡ (slot_at t BODY_SLOT, Body b) ∷ rest m.1
      → m' ≡ lay (push (HomeBody t (ended b)) m)

-- the seat is at rest, and has this number
abbrev pub IsRest : {B : Type 0} → Sat B → ℕ → Type 0
IsRest m s = m ≡ sat m.0.known s (trace_in m.0.parts)

-- the seat has this number, and the slot i in its hand, with x in it
abbrev pub IsHolding : {B : Type 0} → Sat B → ℕ → ℕ → Slot B → Type 0
IsHolding m s i x = m ≡ holding m.0.known s (trace_in m.0.parts) i x

-- a new seat, with no part
abbrev pub entered : {B : Type 0} → Step (Slot B) → Sat B → ℕ → Sat B → Type 0
entered st m x m' = m' ≡ (record m.0 { parts = [] }, [])
