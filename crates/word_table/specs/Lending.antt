-- A slot, while the value in it is lent.
use Rattle.std.specs.Prelude.{◌≡◌}
use Rattle.std.specs.Borrow.{Lends, MutBor, Fml}
use denote.RattleType.{RattleType}
use Rattle.word_steps.specs.contracts.val.Val as val
use Rattle.word_steps.specs.declared.val.Val.{Val}
use Rattle.word_table.specs.contracts.slot.Slot as slot
use Rattle.word_table.specs.declared.slot.Slot.{Slot}
use Rattle.word_table.specs.declared.slot.Slot.TheVariants.{Held}

-- the value under a lock is in it
abbrev pub IsHeld : {B : Type 0} → Slot B → Type 0
IsHeld x = (v : Val) × (x ≡ Held v)

-- it ends with what is left behind r
abbrev pub LendsHeld : (B : RattleType) → MutBor (Slot B.Denot) → MutBor Val → Fml
LendsHeld B x r = Lends (slot.the_row B) val.the_row x r Held
