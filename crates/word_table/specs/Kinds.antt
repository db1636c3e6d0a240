-- What a kind of step on one word shows of itself: that it leaves the slots alone, that each step of it is an event of
-- the core, and that it keeps the rule.
use Rattle.std.specs.Prelude.{ℕ, ◌+◌, ◌<◌, List, ◌∷◌}
use Rattle.core_data.specs.Columns.{put, put_at}
use Rattle.handoff_data.specs.declared.shape.Shape.{Shape}
use Rattle.word_rule.specs.WordsHold.{WordsHold}
use Rattle.word_steps.specs.Decode.{Homes}
use Rattle.word_steps.specs.Events.{IsEvent}
use Rattle.word_steps.specs.Records.{Rec}
use Rattle.word_table.specs.Outs.{IsQuiet}

-- the record of a step, by the seat, its trace, the number, the word after and the word found
abbrev pub Note : Type 0
Note = ℕ → List Rec → ℕ → ℕ → ℕ → Rec

-- when it may be made: in a machine of this shape, by the seat, its trace, the number, the word found and the word
-- after
abbrev pub May : Type 1
May = Shape → ℕ → List Rec → ℕ → ℕ → ℕ → Type 0

-- what is known of the word found, by the seat, its trace before the step, and the number
abbrev pub Told : Type 1
Told = Shape → ℕ → List Rec → ℕ → ℕ → Type 0

-- it takes no slot and gives none
abbrev pub LeavesSlots : Note → Type 0
LeavesSlots note = (s : ℕ) (trace : List Rec) (n y x : ℕ) → IsQuiet (note s trace n y x) trace

-- each step of it is one event of the core that words, values and traces show, and its record is that event's
abbrev pub MakesEvents : ℕ → (Shape → ℕ) → Note → May → Type 0
MakesEvents col bound note may =
    (shape : Shape) (words : ℕ → ℕ → ℕ) (homes : Homes) (traces : ℕ → List Rec) (s n y : ℕ)
    → WordsHold shape words homes traces → s < shape.cpus + shape.agents → n < bound shape
    → may shape s (traces s) n (words n col) y
    → IsEvent shape words homes traces s (note s (traces s) n y (words n col)) (put_at words n col y) homes

-- the rule holds after it, and this is told of the word found
abbrev pub KeepsRule : ℕ → (Shape → ℕ) → Note → May → Told → Type 0
KeepsRule col bound note may told =
    (shape : Shape) (words : ℕ → ℕ → ℕ) (homes : Homes) (traces : ℕ → List Rec) (s n y : ℕ)
    → WordsHold shape words homes traces → s < shape.cpus + shape.agents → n < bound shape
    → may shape s (traces s) n (words n col) y
    → WordsHold shape (put_at words n col y) homes (put traces s (note s (traces s) n y (words n col) ∷ traces s))
    × told shape s (traces s) n (words n col)
