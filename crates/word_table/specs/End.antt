-- How a table ends.
use Rattle.std.specs.Prelude.{◌≡◌, ◌<◌, ◌≤◌, ℕ, Vec, ◌==◌, ◌*◌, ◌%◌, ◌/◌, ◌&&◌, nat_lt, Bool, List, [], ◌∷◌, Some, None}
use Rattle.std.specs.Prelude.{if◌then◌else◌, slice_index_or}
use Rattle.std.specs.List.{Contains, slice_get}
use Rattle.std.specs.Global.{Global}
use Rattle.std.specs.Vec.{vec_capacity}
use mathlib.Core.Option.{some}
use lib.ListN.{get_elem?}
use Rattle.handoff_data.specs.declared.shape.Shape.{Shape}
use Rattle.handoff_data.specs.declared.state.State.{State}
use Rattle.word_rule.specs.WordsHold.{WordsHold}
use Rattle.word_steps.specs.Decode.{Homes}
use Rattle.word_steps.specs.Folds.{task_held, queue_held, works_held, wait_held, body_held, current_task, task_to_clear}
use Rattle.word_steps.specs.Records.{Rec}
use Rattle.word_steps.specs.Words.{STATE, COND, words_of}
use Rattle.word_table.specs.Exclusives.{ExclusivesTold}
use Rattle.word_table.specs.Layout.{SLOTS, BODY_SLOT, rows_of, slot_at}
use Rattle.word_table.specs.Parts.{Part}
use Rattle.word_table.specs.Ruled.{lastings}
use Rattle.word_table.specs.Views.{TokenView}
use Rattle.word_table.specs.declared.slot.Key.{Key}
use Rattle.word_table.specs.declared.slot.Slot.{Slot}
use Rattle.word_table.specs.declared.slot.Slot.TheVariants.{Body, Room}

-- nothing yet, and room for n
pub record HasRoom {A : Type 0} (n : ℕ) (v : Vec A Global) : Type 0 where
  pub none : v.items ≡ []
  pub enough : n ≤ vec_capacity v

-- each of the first n seats is there
pub record HasEachSeat (n : ℕ) (seats : List ℕ) : Type 0 where
  pub each : (s : ℕ) → s < n → Contains seats s

-- the seat has given all back: no value of a lock, no body; it has no current task, and no busy word to clear
pub record IsIdle (token : TokenView) : Type 0 where
  pub tasks : (t : ℕ) → task_held token.trace t ≡ None
  pub queues : (c : ℕ) → queue_held token.trace c ≡ None
  pub works : (c : ℕ) → works_held token.trace c ≡ None
  pub waits : (k : ℕ) → wait_held token.trace k ≡ None
  pub body : body_held token.trace ≡ None
  pub current : current_task token.seat token.trace ≡ None
  pub clear : task_to_clear token.seat token.trace ≡ None

-- by the seat's number the trace of its token
abbrev pub traces_of : List TokenView → ℕ → List Rec
traces_of [] s = []
traces_of (token ∷ tokens) s = if token.seat == s then token.trace else traces_of tokens s

abbrev pub part_of : TokenView → Part
part_of token = record { number = token.seat; trace = token.trace }

-- the slot is that of the body of one of so many tasks
abbrev pub is_body : ℕ → ℕ → Bool
is_body tasks slot = (slot % SLOTS == BODY_SLOT) && nat_lt (slot / SLOTS) tasks

-- what is left in words and slots: with all traces they keep the rule, and each body and the room for the bodies is
-- there
pub record IsLeft
    {B : Type 0}
    (lasting : B → List ℕ)
    (ended_of : B → Bool)
    (key : Key B)
    (tokens : List TokenView)
    (words : List ℕ)
    (slots : List (Slot B))
    : Type 0 where
  pub homes : Homes
  pub kept : WordsHold key.shape (words_of words) homes (traces_of tokens)
  pub exclusives : ExclusivesTold (traces_of tokens) homes.wait
  pub room : (v : Vec B Global) × (get_elem? slots (SLOTS * rows_of key.shape) ≡ some (Room v))
      × HasRoom key.shape.tasks v
  pub bodies :
      (t : ℕ) → t < key.shape.tasks
      → (b : B) × (get_elem? slots (slot_at t BODY_SLOT) ≡ some (Body b))
      × (lasting b ≡ slice_index_or (lastings lasting key) t []) × (ended_of b ≡ homes.ended t)

-- what is left: the last words and values keep the rule with all traces, each state and condition is the last word, and
-- each body has ended or not as the rule has it
pub record IsEnd
    {B : Type 0}
    (ended_of : B → Bool)
    (shape : Shape)
    (tokens : List TokenView)
    (bodies : List B)
    (states : List State)
    (conds : List ℕ)
    : Type 0 where
  pub words : ℕ → ℕ → ℕ
  pub homes : Homes
  pub kept : WordsHold shape words homes (traces_of tokens)
  pub exclusives : ExclusivesTold (traces_of tokens) homes.wait
  pub state : (t : ℕ) → t < shape.tasks → slice_get states t ≡ Some (record { 0 = words t STATE })
  pub cond : (k : ℕ) → k < shape.conds → slice_get conds k ≡ Some (words k COND)
  pub ended : (t : ℕ) (b : B) → slice_get bodies t ≡ Some b → ended_of b ≡ homes.ended t
