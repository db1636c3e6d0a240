use Rattle.std.proofs.Common.{◌≡◌, ◌≤◌, ◌*◌, length}
use Rattle.std.specs.Vec.{vec_len, vec_capacity}
use Rattle.word_table.specs.Begin.{AreRows}
use Rattle.word_table.specs.Layout.{SLOTS}
use Rattle.word_table.proofs.life.lay_slots.Given as goal

abbrev pub invariant-loop-body : goal.invariant-loop-body
invariant-loop-body g l = record {
  can_next : (goal.iterator-loop-body g).can_next l.body-iterator;
  is_finite : (goal.iterator-loop-body g).is_finite l.body-iterator;
  count : l.laid ≡ length l.yielded;
  rows : AreRows l.shape l.mask l.laid l.yielded l.slots.items;
  full : vec_len l.slots ≡ SLOTS * l.laid;
  space : vec_capacity l.slots ≡ vec_capacity l.initial.slots;
}

abbrev pub invariant-loop-n : goal.invariant-loop-n
invariant-loop-n g l = record {
  low : l.laid ≤ l.n;
  high : l.n ≤ l.rows;
  all : length l.fn.bodies.items ≤ l.n;
  rows : AreRows l.shape l.mask l.n l.fn.bodies.items l.slots.items;
  full : vec_len l.slots ≡ SLOTS * l.n;
  space : vec_capacity l.slots ≡ vec_capacity l.initial.slots;
}
