-- The rule holds at the start.
use Rattle.std.proofs.Common.{◌≡◌, ℕ, zero, suc, ◌+◌, ◌*◌, ◌%◌, ◌<◌, ◌≤◌, Bool, true, false, get_or, length, map, refl, sym, ap, ◌∙◌, subst, List, [], ◌∷◌, ◌⊎◌, inl, inr, lt-ltb, le-ltb, arith}
use Rattle.std.specs.Prelude.{◌↔◌, nat_lt, if◌then◌else◌, Vec}
use Rattle.std.specs.Global.{Global}
use Rattle.std.proofs.lemmas.Bool.{cases_eq, cases_lt}
use Rattle.std.proofs.lemmas.Bool.Decides.{nat_tests}
use Rattle.std.proofs.lemmas.List.{length-map}
use mathlib.Core.Option.{none, some, some-injective, some-ne-none}
use mathlib.Core.Option as maybe
use mathlib.Core.Path.{fun_ext}
use lib.ListN.{get_elem?}
use Rattle.atomic_table.specs.Table.{opening}
use Rattle.atomic_table.proofs.Lists.{at_map}
use Rattle.core_data.specs.Opening.{no_tasks}
use Rattle.handoff_data.specs.Mask.{HasCpu}
use Rattle.handoff_data.specs.Shape.{IsShape}
use Rattle.handoff_data.specs.declared.mask.CpuMask.{CpuMask}
use Rattle.handoff_data.specs.declared.shape.Shape.{Shape}
use Rattle.core_data.specs.Entries.{has_entry}
use Rattle.word_rule.proofs.BodyLaws.{start_law}
use Rattle.word_rule.specs.WordsHold.{WordsHold}
use Rattle.word_steps.specs.Opening.{first_words, first_homes, first_val}
use Rattle.word_steps.specs.Decode.{Homes}
use Rattle.word_steps.specs.Words.{STRIDE, words_of}
use Rattle.word_steps.specs.declared.val.Val.TheVariants as val
use Rattle.word_table.proofs.Exclusives.{first_empty}
use Rattle.word_table.proofs.Laying.{past}
use Rattle.word_steps.specs.Exclusives.{exclusive_entry}
use Rattle.word_table.specs.Begin.{body_slot, row, IsLaid}
use Rattle.word_table.specs.Layout.{SLOTS, rows_of, slot_at}
use Rattle.word_table.specs.Outs.{by_column, has_out}
use Rattle.word_table.specs.Ruled.{Each, Fits, IsRoomed, task_of, queue_of, works_of, wait_of, val_in, has_body, homes_of, known_of, Ruled, fresh, first_view}
use Rattle.word_table.specs.declared.slot.Key.{Key}
use Rattle.word_table.specs.declared.slot.Slot.{Slot}
use Rattle.word_table.specs.declared.slot.Slot.TheVariants.{Empty, Held, Body, Room}
use Rattle.word_table.specs.declared.view.View.{View}

abbrev Lying : Type 0 → Type 0
Lying B = maybe.Option (maybe.Option (Slot B))

-- a function of a choice
chosen : {C D : Type 0} (F : C → D) (b : Bool) (x y : C) → F (if b then x else y) ≡ (if b then F x else F y)
chosen F true x y = refl
chosen F false x y = refl

pub read_at : {A : Type 0} (l : List A) (i : ℕ) (a d : A) → get_elem? l i ≡ some a → get_or l i d ≡ a
read_at [] i a d e = absurd (some-ne-none a (sym e))
read_at (x ∷ xs) zero a d e = some-injective x a e
read_at (x ∷ xs) (suc i) a d e = read_at xs i a d e

pub within : {A : Type 0} (l : List A) (i : ℕ) (a : A) → get_elem? l i ≡ some a → i < length l
within [] i a e = absurd (some-ne-none a (sym e))
within (x ∷ xs) zero a e = omega arith
within (x ∷ xs) (suc i) a e = let h = within xs i a e in omega arith

module _ {B : Type 0} where
  -- the room is where it was laid
  pub room_there : (n : ℕ) (o : Lying B) → IsRoomed n o
      → (v : Vec B Global) × (o ≡ some (some (Room v))) × IsRoomed n (some (some (Room v)))
  room_there n none e = absurd e
  room_there n (some none) e = absurd e
  room_there n (some (some Empty)) e = absurd e
  room_there n (some (some (Held v))) e = absurd e
  room_there n (some (some (Body b))) e = absurd e
  room_there n (some (some (Room v))) e = (v, refl, e)

  body_in : (o : maybe.Option B) (b : B) → ◌≡◌ {A = Slot B} (body_slot o) (Body b) → o ≡ some b
  body_in none b e = cc
  body_in (some c) b e = let same : c ≡ b = cc in ap some same

  body_shown : (bodies : List B) (n : ℕ) → has_body (some (some (body_slot (get_elem? bodies n)))) ≡ nat_lt n
      (length bodies)
  body_shown [] n = sym (le-ltb n 0 (omega arith))
  body_shown (b ∷ bs) zero = sym (lt-ltb 0 (suc (length bs)) (omega arith))
  body_shown (b ∷ bs) (suc n) = body_shown bs n ∙ grind (arith, nat_tests)

  module _ (shape : Shape) (mask : CpuMask) (bodies : List B) (slots : List (Slot B))
      (laid : IsLaid shape mask bodies slots) where
    -- what F sees of the slot of n in the column k
    abbrev seen : {C : Type 0} → (Lying B → C) → ℕ → ℕ → C
    seen F n k = F (get_elem? (map some slots) (slot_at n k))

    there : (n k : ℕ) (x : Slot B) → n < rows_of shape → k < SLOTS
        → get_elem? (row shape mask n (body_slot (get_elem? bodies n))) k ≡ some x
        → get_elem? (map some slots) (slot_at n k) ≡ some (some x)
    there n k x low small is = at_map some slots (slot_at n k) x (laid.rows n k low small ∙ is)

    room_laid : (v : Vec B Global) × (get_elem? (map some slots) (SLOTS * rows_of shape) ≡ some
        (some (Room v))) × IsRoomed shape.tasks (some (some (Room v)))
    room_laid =
        let r = room_there shape.tasks (some (get_elem? slots (SLOTS * rows_of shape))) laid.room in (
          r.0,
          at_map some slots (SLOTS * rows_of shape) (Room r.0)
              (some-injective (get_elem? slots (SLOTS * rows_of shape)) (some (Room r.0)) r.1),
          r.2,
        )

    -- past the numbers there is nothing but the room
    far : {C : Type 0} (F : Lying B → C) (d : C) (n k : ℕ) → rows_of shape ≤ n → F none ≡ d
        → ((v : Vec B Global) → F (some (some (Room v))) ≡ d) → seen F n k ≡ d
    far F d n k high nothing room = elim (cases_eq (slot_at n k) (SLOTS * rows_of shape)) [
      | inl e ↦ ap (λ (i : ℕ). F (get_elem? (map some slots) i)) e ∙ ap F room_laid.1 ∙ room room_laid.0
      | inr ne ↦ ap F (past (map some slots) (slot_at n k) (omega (arith, ne, high, length-map slots some, laid.long)))
          ∙ nothing
    ]

    -- the column k shows x at the numbers below m, and nothing else
    column_is : {C : Type 0} (F : Lying B → C) (d : C) (k m : ℕ) (x : Slot B) → k < SLOTS → m ≤ rows_of shape
        → F none ≡ d → F (some (some Empty)) ≡ d → ((v : Vec B Global) → F (some (some (Room v))) ≡ d)
        → ((n : ℕ) → get_elem? (row shape mask n (body_slot (get_elem? bodies n))) k ≡ some
        (if nat_lt n m then x else Empty)) → (n : ℕ) → seen F n k ≡ (if nat_lt n m then F (some (some x)) else d)
    column_is {C = C} F d k m x small few nothing empty room is n = elim (cases_lt n (rows_of shape)) [
      | inl low ↦ ap F (there n k (if nat_lt n m then x else Empty) low small (is n))
          ∙ chosen (λ (z : Slot B). F (some (some z))) (nat_lt n m) x Empty
          ∙ ap (λ (z : C). if nat_lt n m then F (some (some x)) else z) empty
      | inr high ↦ far F d n k high nothing room ∙ ap (λ (b : Bool). if b then F (some (some x)) else d)
          (sym (le-ltb n m (omega (arith, few, high))))
    ]

    bodies_are : length bodies ≡ shape.tasks → (n : ℕ) → seen has_body n 1 ≡ nat_lt n shape.tasks
    bodies_are count n = elim (cases_lt n (rows_of shape)) [
      | inl low ↦ ap has_body (there n 1 (body_slot (get_elem? bodies n)) low (omega arith) refl) ∙ body_shown bodies n
          ∙ ap (nat_lt n) count
      | inr high ↦ far has_body false n 1 high refl (λ v. refl) ∙ sym (le-ltb n shape.tasks (omega (arith, high)))
    ]

    homes_are : (ended : ℕ → Bool) → length bodies ≡ shape.tasks → homes_of (map some slots) ended ≡ record (first_homes shape mask) { ended = ended }
    homes_are ended count = λ j. record {
      task = fun_ext (column_is (λ o. task_of (val_in o)) _ 0 shape.tasks (Held (val.Task (first_val mask))) (omega arith) (omega arith) refl refl (λ v. refl) (λ n. refl)) j;
      queue = fun_ext (column_is (λ o. queue_of (val_in o)) _ 2 shape.cpus (Held (val.Queue no_tasks)) (omega arith) (omega arith) refl refl (λ v. refl) (λ n. refl)) j;
      works = fun_ext (column_is (λ o. works_of (val_in o)) _ 3 shape.cpus (Held (val.Works [])) (omega arith) (omega arith) refl refl (λ v. refl) (λ n. refl)) j;
      wait = fun_ext (column_is (λ o. wait_of (val_in o)) _ 5 shape.conds (Held (val.Wait [])) (omega arith) (omega arith) refl refl (λ v. refl) (λ n. refl)) j;
      body = fun_ext (bodies_are count) j;
      ended = ended;
    }

    -- a body at home is the one that was laid there
    body_laid : (t : ℕ) (b : B) → get_elem? (map some slots) (slot_at t 1) ≡ some (some (Body b))
        → get_elem? bodies t ≡ some b
    body_laid t b e = elim (cases_lt t (rows_of shape)) [
      | inl low ↦ let x = there t 1 (body_slot (get_elem? bodies t)) low (omega arith) refl in
          body_in (get_elem? bodies t) b (some-injective (body_slot (get_elem? bodies t)) (Body b)
          (some-injective (some (body_slot (get_elem? bodies t))) (some (Body b)) (sym x ∙ e)))
      | inr high ↦ let no : false ≡ true = sym (far has_body false t 1 high refl (λ v. refl)) ∙ ap has_body e in cc
    ]

no_column : (k : ℕ) → by_column k false false false false false ≡ false
no_column k = grind (arith, nat_tests)

-- nothing is out
no_out : (i : ℕ) → has_out i [] ≡ true → ⊥
no_out i e = let no : false ≡ true = sym (no_column (i % SLOTS)) ∙ e in cc

fresh_fits : (m k n : ℕ) → k + n ≤ m → Each (Fits m (λ q. []) (λ q. 0) 0) (fresh k n)
fresh_fits m k zero le = tt
fresh_fits m k (suc n) le = (
  record { near = omega arith; owned = refl; trace_is = refl },
  fresh_fits m
      (suc k) n (omega arith),
)

module _ {B : Type 0} (lasting : B → List ℕ) (ended_of : B → Bool) (key : Key B) where
  abbrev seats : ℕ
  seats = key.shape.cpus + key.shape.agents

  abbrev IsFirst : ℕ → View → Type 0
  IsFirst j v = Each (Fits seats (λ q. []) (λ q. 0) j)
      v.parts × ((v.known ≡ known_of lasting key) ⊎ (v.parts ≡ []))

  firsts : (j : ℕ) (v : View) → get_elem? (first_view lasting key ∷ []) j ≡ some v → IsFirst j v
  firsts zero v e = subst (IsFirst 0) (some-injective (first_view lasting key) v e)
      (fresh_fits seats 0 seats (omega arith), inl refl)
  firsts (suc j) v e = absurd (some-ne-none v (sym e))

  pub opens : (mask : CpuMask) (words : List ℕ) (slots : List (Slot B)) → IsShape key.shape → ((c : ℕ) → HasCpu mask c ↔ (c < key.shape.cpus)) → length key.bodies.value.items ≡ key.shape.tasks
      → words_of words ≡ first_words key.shape → length words ≡ STRIDE * rows_of key.shape → IsLaid key.shape mask key.bodies.value.items slots
      → Ruled lasting ended_of key (opening words slots (first_view lasting key))
  opens mask words slots is_shape all count words_are wide laid =
      let bodies = key.bodies.value.items in
      let ended = λ (t : ℕ). get_or (map ended_of bodies) t false in record {
        trace = λ q. [];
        owner = λ q. 0;
        keeper = λ q. 0;
        ended = ended;
        bare = λ q far. refl;
        wide = wide;
        deep = length-map slots some ∙ laid.long;
        room = (let r = room_laid key.shape mask bodies slots laid in subst (IsRoomed key.shape.tasks) (sym r.1) r.2);
        parts = firsts;
        slots = λ i q near e. absurd (no_out i e);
        bodies = λ t b e. let is = body_laid key.shape mask bodies slots laid t b e in record {
          lasts = sym (read_at (map lasting bodies) t (lasting b) [] (at_map lasting bodies t b is));
          ends = sym (read_at (map ended_of bodies) t (ended_of b) false (at_map ended_of bodies t b is));
        };
        inv = subst (λ (z : ℕ → ℕ → ℕ). WordsHold key.shape z (homes_of (map some slots) ended) (λ q. [])) (sym words_are)
            (subst (λ z. WordsHold key.shape (first_words key.shape) z (λ q. [])) (sym (homes_are key.shape mask bodies slots laid ended count)) (start_law key.shape mask ended is_shape all));
        exclusives = λ k t entries home has.
            let first = sym (ap (λ (z : Homes). z.wait k) (homes_are key.shape mask bodies slots laid ended count)) ∙ home in
            let no : false ≡ true = subst (λ z. has_entry z (exclusive_entry t) ≡ true) (first_empty (nat_lt k key.shape.conds) entries first) has in cc;
      }
