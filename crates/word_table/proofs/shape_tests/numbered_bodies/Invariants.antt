use Rattle.std.proofs.Common.{◌≡◌, length}
use Rattle.word_table.proofs.shape_tests.numbered_bodies.Given as goal

abbrev pub invariant-loop-t : goal.invariant-loop-t
invariant-loop-t l = length l.bodies.items ≡ l.t
