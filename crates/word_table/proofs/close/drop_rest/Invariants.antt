use Rattle.std.proofs.Common.{◌≡◌, ◌*◌}
use Rattle.std.specs.Slots.{slots_filled, slots_len}
use mathlib.Core.Bool.{not}
use Rattle.word_table.specs.End.{is_body}
use Rattle.word_table.specs.Layout.{SLOTS}
use Rattle.word_table.proofs.Emptying.{Emptied}
use Rattle.word_table.proofs.close.drop_rest.Given as goal

abbrev pub invariant-loop-slot : goal.invariant-loop-slot
invariant-loop-slot g l = record {
  len : slots_len l.left.slots ≡ slots_len l.initial.left.slots;
  emptied : Emptied l.slot (SLOTS * l.rows) (λ k. not (is_body l.tasks k)) (slots_filled l.left.slots);
}
