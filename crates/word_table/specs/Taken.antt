-- What contracts see of a lock that a seat has taken, and of a body that is out.
use Rattle.std.specs.Prelude.{◌≡◌, ℕ, List, [], ◌∷◌}
use Rattle.atomic_table.specs.Seated.{TableId}
use Rattle.word_rule.specs.Sorts.{Sort}
use Rattle.word_steps.specs.declared.val.Val.{Val}
use Rattle.word_steps.specs.declared.val.Val.TheVariants as val
use Rattle.word_table.specs.Layout.{BODY_SLOT, slot_of, slot_at}
use Rattle.word_table.specs.Plays.{Sat, bare}
use Rattle.word_table.specs.Views.{WordsView}
use Rattle.word_table.specs.declared.slot.Slot.{Slot}
use Rattle.word_table.specs.declared.slot.Slot.TheVariants.{Empty, Held, Body, Room}

-- its table, its slot, and the value under it
pub record TakenView : Type 0 where
  pub of : TableId
  pub slot : ℕ
  pub val : Val

-- it is the lock of n of this table
pub record IsLockOf (words : WordsView) (sort : Sort) (n : ℕ) (taken : TakenView) : Type 0 where
  pub table : taken.of ≡ words.name
  pub place : taken.slot ≡ slot_at n (slot_of sort)

-- the value in the hand of a seat
abbrev pub val_in_hand : {B : Type 0} → List (ℕ × Slot B) → Val
val_in_hand [] = val.Works []
val_in_hand ((i, Empty) ∷ xs) = val.Works []
val_in_hand ((i, Held v) ∷ xs) = v
val_in_hand ((i, Body b) ∷ xs) = val.Works []
val_in_hand ((i, Room v) ∷ xs) = val.Works []

abbrev pub taken_view : {B : Type 0} → TableId → ℕ → Sat B → TakenView
taken_view name i m = record { of = name; slot = i; val = val_in_hand m.1 }

-- a seat of no part has the slot in its hand, with a value
abbrev pub IsTaken : {B : Type 0} → ℕ → Sat B → Type 0
IsTaken i m = m ≡ bare i (Held (val_in_hand m.1))

-- its table, its task, and the body
pub record BodyView (B : Type 0) : Type 0 where
  pub of : TableId
  pub task : ℕ
  pub body : B

-- a seat of no part has the slot of the task's body in its hand, which is empty
abbrev pub IsOut : {B : Type 0} → ℕ → Sat B → Type 0
IsOut t m = m ≡ bare (slot_at t BODY_SLOT) Empty
