use Rattle.std.proofs.Common.{◌≡◌, map}
use Rattle.std.specs.List.{range_with_len}
use Rattle.std.specs.Slots.{slots_items, slots_filled, slots_len}
use Rattle.std.specs.Vec.{vec_len, vec_capacity}
use mathlib.Core.Option.{some}
use lib.ListN.{get_elem?}
use Rattle.word_table.specs.Layout.{BODY_SLOT, slot_at}
use Rattle.word_table.specs.declared.slot.Slot.TheVariants.{Body}
use Rattle.word_table.proofs.Emptying.{HasTaken}
use Rattle.word_table.proofs.close.take_bodies.Given as goal

abbrev pub invariant-loop-t : goal.invariant-loop-t
invariant-loop-t g l = record {
  items : slots_items l.left.slots ≡ slots_items l.initial.left.slots;
  len : slots_len l.left.slots ≡ slots_len l.initial.left.slots;
  words : l.left.words ≡ l.initial.left.words;
  filled : HasTaken l.t (slots_filled l.initial.left.slots) (slots_filled l.left.slots);
  bodies : map (λ b. some (Body b)) l.bodies.items ≡ map
      (λ t. get_elem? (slots_items l.initial.left.slots) (slot_at t BODY_SLOT)) (range_with_len 0 l.t);
  full : vec_len l.bodies ≡ l.t;
  room : vec_capacity l.bodies ≡ vec_capacity l.initial.bodies;
}
