-- The rule of the table: what its words, values at home and views show is kept (`word_rule`).
use Rattle.std.specs.Prelude.{◌≤◌, ◌≡◌, ◌⊎◌, ℕ, zero, suc, ◌+◌, ◌*◌, ◌<◌, Bool, true, false, Option, Some, None, List}
use Rattle.std.specs.Prelude.{[], ◌∷◌, ◌++◌, map, length, take, drop, slice_index_or}
use Rattle.std.specs.Vec.{vec_capacity}
use mathlib.Core.Option.{none, some}
use mathlib.Core.Option as maybe
use lib.ListN.{get_elem?}
use Rattle.atomic_table.specs.Table.{State}
use Rattle.core_data.specs.Queue.{Queue}
use Rattle.core_data.specs.declared.values.TaskVal.{TaskVal}
use Rattle.core_data.specs.declared.values.WaitEntry.{WaitEntry}
use Rattle.core_data.specs.declared.values.WorkItem.{WorkItem}
use Rattle.word_rule.specs.WordsHold.{WordsHold}
use Rattle.word_rule.specs.Sorts.{OfTask, OfQueue, OfWorks, OfWait}
use Rattle.word_steps.specs.Decode.{Homes}
use Rattle.word_steps.specs.Records.{Rec}
use Rattle.word_steps.specs.Words.{STRIDE, words_of}
use Rattle.word_steps.specs.declared.val.Val.{Val}
use Rattle.word_steps.specs.declared.val.Val.TheVariants as val
use Rattle.word_table.specs.Exclusives.{ExclusivesTold}
use Rattle.word_table.specs.Layout.{SLOTS, BODY_SLOT, rows_of, slot_of, slot_at}
use Rattle.word_table.specs.Outs.{has_out}
use Rattle.word_table.specs.Parts.{Part, Known}
use Rattle.word_table.specs.Plays.{spent}
use Rattle.word_table.specs.declared.slot.Key.{Key}
use Rattle.word_table.specs.declared.slot.Slot.{Slot}
use Rattle.word_table.specs.declared.slot.Slot.TheVariants.{Empty, Held, Body, Room}
use Rattle.word_table.specs.declared.view.View.{View}

abbrev pub Each : {A : Type 0} → (A → Type 0) → List A → Type 0
Each P [] = Unit {0}
Each P (x ∷ xs) = P x × Each P xs

-- The values at home

abbrev pub val_in : {B : Type 0} → maybe.Option (maybe.Option (Slot B)) → Option Val
val_in none = None
val_in (some none) = None
val_in (some (some Empty)) = None
val_in (some (some (Held v))) = Some v
val_in (some (some (Body b))) = None
val_in (some (some (Room v))) = None

abbrev pub has_body : {B : Type 0} → maybe.Option (maybe.Option (Slot B)) → Bool
has_body none = false
has_body (some none) = false
has_body (some (some Empty)) = false
has_body (some (some (Held v))) = false
has_body (some (some (Body b))) = true
has_body (some (some (Room v))) = false

abbrev pub task_of : Option Val → Option TaskVal
task_of (Some (val.Task v)) = Some v
task_of v = None

abbrev pub queue_of : Option Val → Option Queue
queue_of (Some (val.Queue v)) = Some v
queue_of v = None

abbrev pub works_of : Option Val → Option (List WorkItem)
works_of (Some (val.Works v)) = Some v
works_of v = None

abbrev pub wait_of : Option Val → Option (List WaitEntry)
wait_of (Some (val.Wait v)) = Some v
wait_of v = None

abbrev pub homes_of : {B : Type 0} → List (maybe.Option (Slot B)) → (ℕ → Bool) → Homes
homes_of hs ended =
    record {
      task = λ n. task_of (val_in (get_elem? hs (slot_at n (slot_of OfTask))));
      queue = λ n. queue_of (val_in (get_elem? hs (slot_at n (slot_of OfQueue))));
      works = λ n. works_of (val_in (get_elem? hs (slot_at n (slot_of OfWorks))));
      wait = λ n. wait_of (val_in (get_elem? hs (slot_at n (slot_of OfWait))));
      body = λ n. has_body (get_elem? hs (slot_at n BODY_SLOT));
      ended = ended;
    }

-- room for n bodies
abbrev pub IsRoomed : {B : Type 0} → ℕ → maybe.Option (maybe.Option (Slot B)) → Type 0
IsRoomed n none = ⊥
IsRoomed n (some none) = ⊥
IsRoomed n (some (some Empty)) = ⊥
IsRoomed n (some (some (Held v))) = ⊥
IsRoomed n (some (some (Body b))) = ⊥
IsRoomed n (some (some (Room v))) = (v.items ≡ []) × (n ≤ vec_capacity v)

-- The seats

-- a part at the seat j of the table
pub record Fits (seats : ℕ) (trace : ℕ → List Rec) (owner : ℕ → ℕ) (j : ℕ) (p : Part) : Type 0 where
  pub near : p.number < seats
  pub owned : owner p.number ≡ j
  pub trace_is : p.trace ≡ trace p.number

-- the slot i, which the seat s has, is out
pub record SlotOut {B : Type 0} (homes : List (maybe.Option (Slot B))) (keeper : ℕ → ℕ) (i s : ℕ) : Type 0 where
  pub kept : keeper i ≡ s
  pub lies : get_elem? homes i ≡ some none

module _ {B : Type 0} (lasting : B → List ℕ) where
  abbrev pub lastings : Key B → List (List ℕ)
  lastings key = map lasting key.bodies.value.items

  abbrev pub known_of : Key B → Known
  known_of key = record { shape = key.shape; lasting = lastings key }

  -- a body at home keeps what it kept at the start, and has ended or not as the rule has it
  pub record IsBody (key : Key B) (ended_of : B → Bool) (ended : ℕ → Bool) (t : ℕ) (b : B) : Type 0 where
    pub lasts : lasting b ≡ slice_index_or (lastings key) t []
    pub ends : ended_of b ≡ ended t

  module _ (ended_of : B → Bool) where
    pub record Ruled (key : Key B) (s : State (Slot B) View) : Type 0 where
      -- by the seat's number: what it did, and which seat of the table it is
      pub trace : ℕ → List Rec
      pub owner : ℕ → ℕ
      -- which seat has the slot, where one has
      pub keeper : ℕ → ℕ
      -- which bodies have ended
      pub ended : ℕ → Bool
      -- numbers past the seats did nothing
      pub bare : (q : ℕ) → key.shape.cpus + key.shape.agents ≤ q → trace q ≡ []
      pub wide : length s.words ≡ STRIDE * rows_of key.shape
      pub deep : length s.homes ≡ SLOTS * rows_of key.shape + 1
      pub room : IsRoomed key.shape.tasks (get_elem? s.homes (SLOTS * rows_of key.shape))
      pub parts :
          (j : ℕ) (v : View) → get_elem? s.views j ≡ some v
          → Each (Fits (key.shape.cpus + key.shape.agents) trace owner j) v.parts
          × ((v.known ≡ known_of key) ⊎ (v.parts ≡ []))
      pub slots : (i q : ℕ) → q < key.shape.cpus + key.shape.agents → has_out i (trace q) ≡ true
          → SlotOut s.homes keeper i q
      pub bodies : (t : ℕ) (b : B) → get_elem? s.homes (slot_at t BODY_SLOT) ≡ some (some (Body b))
          → IsBody key ended_of ended t b
      pub inv : WordsHold key.shape (words_of s.words) (homes_of s.homes ended) trace
      pub exclusives : ExclusivesTold trace (homes_of s.homes ended).wait

-- parts with empty traces, numbered from k on
abbrev pub fresh : ℕ → ℕ → List Part
fresh k zero = []
fresh k (suc n) = record { number = k; trace = [] } ∷ fresh (suc k) n

-- the first seat has the parts of all
abbrev pub first_view : {B : Type 0} → (B → List ℕ) → Key B → View
first_view lasting key = record { parts = fresh 0 (key.shape.cpus + key.shape.agents); known = known_of lasting key }

-- how seats are dealt and gathered
abbrev pub but_first : View → View
but_first v = record v { parts = drop 1 v.parts }

abbrev pub first_alone : View → View
first_alone v = record v { parts = take 1 v.parts }

abbrev pub joined : View → View → View
joined v w = record v { parts = w.parts ++ v.parts }

-- a seat hands its parts to another, and takes them back
abbrev pub none_kept : View → View
none_kept v = spent

abbrev pub all_given : View → View
all_given v = v

abbrev pub taken_back : View → View → View
taken_back v w = w
