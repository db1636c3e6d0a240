use Rattle.std.proofs.Common.{rules}
use Rattle.word_table.proofs.Opened.{alone}
use Rattle.word_table.specs.Taken.{val_in_hand}
use Rattle.word_table.specs.declared.slot.Slot.TheVariants.{Held}
use Rattle.word_table.proofs.taken.Taken.wait_mut.Goals as goal

pub slot_mut-slot-requires : goal.slot_mut-slot-requires
slot_mut-slot-requires g c =
    let seat = c.self.inside.seat in let held = Held (val_in_hand seat.me.1) in
    (search rules, (held, alone seat.me c.self.inside.slot held c.self.invariant))
