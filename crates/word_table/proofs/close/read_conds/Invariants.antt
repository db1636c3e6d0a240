use Rattle.std.proofs.Common.{◌≡◌, map}
use Rattle.std.specs.List.{range_with_len}
use Rattle.std.specs.Slots.{slots_items}
use Rattle.std.specs.Vec.{vec_len, vec_capacity}
use Rattle.word_steps.specs.Words.{COND, words_of}
use Rattle.word_table.proofs.close.read_conds.Given as goal

abbrev pub invariant-loop-k : goal.invariant-loop-k
invariant-loop-k g l = record {
  conds : l.conds.items ≡ map (λ k. words_of (slots_items l.left.words) k COND) (range_with_len 0 l.k);
  full : vec_len l.conds ≡ l.k;
  room : vec_capacity l.conds ≡ vec_capacity l.initial.conds;
}
