-- How a table begins: its words, its slots, and its tokens.
use Rattle.std.specs.Prelude.{◌≡◌, ◌<◌, ℕ, ◌+◌, ◌*◌, ◌==◌, nat_lt, List, [], ◌∷◌, map, length, if◌then◌else◌}
use Rattle.std.specs.List.{range_with_len}
use mathlib.Core.Option.{none, some}
use mathlib.Core.Option as maybe
use lib.ListN.{get_elem?}
use Rattle.atomic_table.specs.Seated.{TableId}
use Rattle.core_data.specs.Opening.{no_tasks}
use Rattle.core_kinds.specs.Steps.{fresh}
use Rattle.handoff_data.specs.declared.mask.CpuMask.{CpuMask}
use Rattle.handoff_data.specs.declared.shape.Shape.{Shape}
use Rattle.word_steps.specs.Opening.{first_val}
use Rattle.word_steps.specs.Words.{STATE, ACTIVE}
use Rattle.word_steps.specs.declared.val.Val.TheVariants as val
use Rattle.word_table.specs.Layout.{SLOTS, rows_of, slot_at}
use Rattle.word_table.specs.Ruled.{IsRoomed}
use Rattle.word_table.specs.Views.{TokenView}
use Rattle.word_table.specs.declared.slot.Slot.{Slot}
use Rattle.word_table.specs.declared.slot.Slot.TheVariants.{Empty, Held, Body}

-- some tasks are TASK_NEW, some processors active in epoch 0; every other word is 0
abbrev pub words_with : (tasks cpus : ℕ) → ℕ → ℕ → ℕ
words_with tasks cpus n c =
    if c == STATE then (if nat_lt n tasks then fresh.0 else 0) else if c == ACTIVE then (if nat_lt n cpus then 1 else 0)
    else 0

module _ {B : Type 0} where
  abbrev pub body_slot : maybe.Option B → Slot B
  body_slot none = Empty
  body_slot (some b) = Body b

  module _ (shape : Shape) where
    abbrev pub task_slot : CpuMask → ℕ → Slot B
    task_slot mask n = if nat_lt n shape.tasks then Held (val.Task (first_val mask)) else Empty

    abbrev pub queue_slot : ℕ → Slot B
    queue_slot n = if nat_lt n shape.cpus then Held (val.Queue no_tasks) else Empty

    abbrev pub works_slot : ℕ → Slot B
    works_slot n = if nat_lt n shape.cpus then Held (val.Works []) else Empty

    abbrev pub wait_slot : ℕ → Slot B
    wait_slot n = if nat_lt n shape.conds then Held (val.Wait []) else Empty

  module _ (shape : Shape) (mask : CpuMask) where
    -- the slots of n, where this lies in its body's
    abbrev pub row : ℕ → Slot B → List (Slot B)
    row n body = task_slot shape mask n ∷ body ∷ queue_slot shape n ∷ works_slot shape n ∷ Empty ∷ wait_slot shape n
        ∷ []

    -- the slots of the numbers below m are laid, with the bodies from the first on
    abbrev pub AreRows : ℕ → List B → List (Slot B) → Type 0
    AreRows m bodies slots =
        (n k : ℕ) → n < m → k < SLOTS
        → get_elem? slots (slot_at n k) ≡ get_elem? (row n (body_slot (get_elem? bodies n))) k

    -- all slots are laid, with the room in the last
    pub record IsLaid (bodies : List B) (slots : List (Slot B)) : Type 0 where
      pub long : length slots ≡ SLOTS * rows_of shape + 1
      pub rows : AreRows (rows_of shape) bodies slots
      pub room : IsRoomed shape.tasks (some (get_elem? slots (SLOTS * rows_of shape)))

-- the token of a new table for the seat s, and those of n seats in their order
abbrev pub new_token : TableId → Shape → List (List ℕ) → ℕ → TokenView
new_token name shape lasting s = record { of = name; shape = shape; lasting = lasting; seat = s; trace = [] }

abbrev pub first_tokens : TableId → Shape → List (List ℕ) → ℕ → List TokenView
first_tokens name shape lasting n = map (new_token name shape lasting) (range_with_len 0 n)
