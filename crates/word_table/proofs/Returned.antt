-- What `close` returns, from what is left.
use Rattle.std.proofs.Common.{◌≡◌, ℕ, zero, suc, ◌*◌, ◌<◌, Bool, true, false, get_or, set, get_or-set_same, get_or-set_other, length, map, refl, sym, ap, ◌∙◌, subst, List, [], ◌∷◌, zero-add, arith}
use Rattle.std.specs.Prelude.{Option, Some, is_some, option_map, if◌then◌else◌}
use Rattle.std.specs.List.{range_with_len, slice_get}
use Rattle.std.specs.Slots.Ownership.{Filled}
use Rattle.std.proofs.lemmas.Bool.Decides.{nat_tests}
use Rattle.std.proofs.lemmas.List.{length-map, same_lists, get_or_default}
use Rattle.std.proofs.lemmas.List.FromFn.{length-range_with_len, get_or-range_with_len}
use Rattle.std.proofs.lemmas.Option.{slice_get-map, slice_get-get_or}
use mathlib.Core.Bool.{not}
use mathlib.Core.Option.{some, some-injective}
use mathlib.Core.Option as maybe
use lib.ListN.{get_elem?}
use Rattle.atomic_table.proofs.Lists.{at_map, at_index}
use Rattle.handoff_data.specs.declared.shape.Shape.{Shape}
use Rattle.handoff_data.specs.declared.state.State.{State}
use Rattle.word_steps.specs.Words.{STATE, COND, words_of}
use Rattle.word_table.proofs.Opening.{read_at, within}
use Rattle.word_table.specs.End.{IsLeft, IsEnd, is_body}
use Rattle.word_table.specs.Layout.{SLOTS, BODY_SLOT, slot_at}
use Rattle.word_table.specs.Ruled.{lastings}
use Rattle.word_table.specs.Views.{TokenView}
use Rattle.word_table.specs.declared.slot.Key.{Key}
use Rattle.word_table.specs.declared.slot.Slot.{Slot}
use Rattle.word_table.specs.declared.slot.Slot.TheVariants.{Body}

-- Which slots are still filled

pub room_taken : (before after : List Bool) (last len k : ℕ) → Filled before 0 len → after ≡ set before last false
    → k < last → last < len → get_or after k false ≡ true
room_taken before after last len k full is low fits = ap (λ (z : List Bool). get_or z k false) is
    ∙ get_or-set_other before last k false false (λ e. omega arith) ∙ full k (omega arith) (omega arith)

pub room_gone : (before after : List Bool) (last : ℕ) → last < length before → after ≡ set before last false
    → get_or after last false ≡ false
room_gone before after last fits is = ap (λ (z : List Bool). get_or z last false) is
    ∙ get_or-set_same before last false false fits

kept_or_not : (b x : Bool) → x ≡ true → (if b then false else x) ≡ not b
kept_or_not true x e = refl
kept_or_not false x e = e

pub others_filled : (tasks k : ℕ) (before after : List Bool)
    → get_or after k false ≡ (if is_body tasks k then false else get_or before k false) → get_or before k false ≡ true
    → get_or after k false ≡ not (is_body tasks k)
others_filled tasks k before after is full = is ∙ kept_or_not (is_body tasks k) (get_or before k false) full

last_is_no_body : (tasks rows : ℕ) → is_body tasks (SLOTS * rows) ≡ false
last_is_no_body tasks rows = grind (arith, nat_tests)

pub last_gone : (tasks rows : ℕ) (before after : List Bool)
    → get_or after (SLOTS * rows) false ≡ (if is_body tasks (SLOTS * rows) then false else get_or before (SLOTS * rows)
    false) → get_or before (SLOTS * rows) false ≡ false
    → get_or after (SLOTS * rows) false ≡ false
last_gone tasks rows before after is gone = is
    ∙ ap (λ (b : Bool). if b then false else get_or before (SLOTS * rows) false) (last_is_no_body tasks rows) ∙ gone

-- Lists that were read off in order

there : {A : Type 0} (xs : List A) (k : ℕ) → k < length xs → (x : A) × (get_elem? xs k ≡ some x)
there [] k lt = absurd (omega arith)
there (x ∷ xs) zero lt = (x, refl)
there (x ∷ xs) (suc k) lt = there xs k (omega arith)

same_at : {A : Type 0} (xs : List A) (k : ℕ) (x : A) → slice_get xs k ≡ Some x → get_elem? xs k ≡ some x
same_at [] k x e = let no : false ≡ true = ap is_some e in cc
same_at (y ∷ ys) zero x e = let same : y ≡ x = cc in ap some same
same_at (y ∷ ys) (suc k) x e = same_at ys k x e

range_at : (n k : ℕ) → k < n → get_elem? (range_with_len 0 n) k ≡ some k
range_at n k lt = at_index (range_with_len 0 n) k k (omega (arith, length-range_with_len 0 n))
    (sym (get_or-range_with_len 0 n k k lt ∙ zero-add k))

read_off : {A : Type 0} (f : ℕ → A) (n k : ℕ) → k < n → slice_get (map f (range_with_len 0 n)) k ≡ Some (f k)
read_off f n k lt = slice_get-map f (range_with_len 0 n) k
    ∙ ap (λ (o : Option ℕ). option_map f o) (slice_get-get_or (range_with_len 0 n) k 0
    (omega (arith, length-range_with_len 0 n)) ∙ ap Some (get_or-range_with_len 0 n k 0 lt ∙ zero-add k))

-- the states of tasks, and the counters of conditions, as words have them
abbrev pub states_in : List ℕ → Shape → List State
states_in words shape = map (λ (t : ℕ). let s : State = record { 0 = words_of words t STATE } in s)
    (range_with_len 0 shape.tasks)

abbrev pub conds_in : List ℕ → Shape → List ℕ
conds_in words shape = map (λ (k : ℕ). words_of words k COND) (range_with_len 0 shape.conds)

module _ {B : Type 0} (slots : List (Slot B)) (tasks : ℕ) (bodies : List B) where
  abbrev lying : B → maybe.Option (Slot B)
  lying b = some (Body b)

  abbrev AreRead : Type 0
  AreRead = map lying bodies ≡ map (λ (t : ℕ). get_elem? slots (slot_at t BODY_SLOT)) (range_with_len 0 tasks)

  pub bodies_count : AreRead → length bodies ≡ tasks
  bodies_count read = sym (length-map bodies lying) ∙ ap length read
      ∙ length-map (range_with_len 0 tasks) (λ (t : ℕ). get_elem? slots (slot_at t BODY_SLOT))
      ∙ length-range_with_len 0 tasks

  body_at : AreRead → (k : ℕ) (b : B) → k < tasks → get_elem? bodies k ≡ some b
      → get_elem? slots (slot_at k BODY_SLOT) ≡ some (Body b)
  body_at read k b lt is =
      some-injective (get_elem? slots (slot_at k BODY_SLOT)) (some (Body b))
      (sym (at_map (λ (t : ℕ). get_elem? slots (slot_at t BODY_SLOT)) (range_with_len 0 tasks) k k
      (range_at tasks k lt)) ∙ ap (λ z. get_elem? z k) (sym read) ∙ at_map lying bodies k b is)

  body_is : (b c : B) (k : ℕ) → get_elem? slots (slot_at k BODY_SLOT) ≡ some (Body b)
      → get_elem? slots (slot_at k BODY_SLOT) ≡ some (Body c) → b ≡ c
  body_is b c k e f = let same : ◌≡◌ {A = Slot B} (Body b) (Body c) = some-injective (Body b) (Body c) (sym e ∙ f) in cc

-- .. from slots that are the same, of a shape that is the same
pub all_read : {B : Type 0} (slots after : List (Slot B)) (shape first : Shape) (bodies : List B) → after ≡ slots
    → first ≡ shape → AreRead after shape.tasks bodies → AreRead slots first.tasks bodies
all_read slots after shape first bodies same is read = subst (λ (n : ℕ). AreRead slots n bodies)
    (ap (λ (z : Shape). z.tasks) (sym is)) (subst (λ z. AreRead z shape.tasks bodies) same read)

module _ {B : Type 0} (lasting : B → List ℕ) (ended_of : B → Bool) (key : Key B) where
  module _ (tokens : List TokenView) (words : List ℕ) (slots : List (Slot B))
      (end : IsLeft lasting ended_of key tokens words slots) (bodies : List B)
      (read : AreRead slots key.shape.tasks bodies) where
    -- each body keeps what it kept at the start
    pub bodies_last : length key.bodies.value.items ≡ key.shape.tasks → map lasting bodies ≡ lastings lasting key
    bodies_last count =
        let n = bodies_count slots key.shape.tasks bodies read in let all = length-map bodies lasting in
        same_lists (map lasting bodies) (lastings lasting key)
        (all ∙ n ∙ sym (length-map key.bodies.value.items lasting ∙ count))
        (λ k d lt.
        let low : k < key.shape.tasks = omega arith in let b = there bodies k (omega arith) in
        let was = end.bodies k low in
        let same = body_is slots key.shape.tasks bodies b.0 was.0 k
        (body_at slots key.shape.tasks bodies read k b.0 low b.1) was.1 in
        read_at (map lasting bodies) k (lasting b.0) d (at_map lasting bodies k b.0 b.1) ∙ ap lasting same ∙ was.2
        ∙ get_or_default (lastings lasting key) k [] d (omega (arith, length-map key.bodies.value.items lasting)))

    pub ends : (states : List State) (conds : List ℕ) → states ≡ states_in words key.shape
        → conds ≡ conds_in words key.shape → IsEnd ended_of key.shape tokens bodies states conds
    ends states conds states_are conds_are = record {
      words = words_of words;
      homes = end.homes;
      kept = end.kept;
      exclusives = end.exclusives;
      state = λ t lt. ap (λ z. slice_get z t) states_are
          ∙ read_off (λ (t : ℕ). let s : State = record { 0 = words_of words t STATE } in s) key.shape.tasks t lt;
      cond = λ k lt. ap (λ z. slice_get z k) conds_are
          ∙ read_off (λ (k : ℕ). words_of words k COND) key.shape.conds k lt;
      ended = λ t b is.
          let at = same_at bodies t b is in let low : t < key.shape.tasks = (let a = within bodies t b at in
          let n = bodies_count slots key.shape.tasks bodies read in omega arith) in let was = end.bodies t low in
          ap ended_of (body_is slots key.shape.tasks bodies b was.0 t
          (body_at slots key.shape.tasks bodies read t b low at) was.1) ∙ was.3;
    }
