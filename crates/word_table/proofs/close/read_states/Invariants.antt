use Rattle.std.proofs.Common.{◌≡◌, map}
use Rattle.std.specs.List.{range_with_len}
use Rattle.std.specs.Slots.{slots_items}
use Rattle.std.specs.Vec.{vec_len, vec_capacity}
use Rattle.word_steps.specs.Words.{STATE, words_of}
use Rattle.word_table.proofs.close.read_states.Given as goal

abbrev pub invariant-loop-t : goal.invariant-loop-t
invariant-loop-t g l = record {
  states : l.states.items ≡ map (λ t. record { 0 = words_of (slots_items l.left.words) t STATE })
      (range_with_len 0 l.t);
  full : vec_len l.states ≡ l.t;
  room : vec_capacity l.states ≡ vec_capacity l.initial.states;
}
