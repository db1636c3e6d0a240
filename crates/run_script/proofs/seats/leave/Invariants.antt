use Rattle.std.proofs.Common.{◌≡◌, ◌+◌, ◌≤◌, ◌++◌, All, length, map}
use Rattle.std.specs.Vec.{vec_capacity}
use Rattle.run_script.specs.Seated.{pass_of, gates_in}
use Rattle.word_steps.specs.Folds.{journal}
use Rattle.run_script.proofs.seats.leave.Given as goal

abbrev pub invariant-loop-seat : goal.invariant-loop-seat
invariant-loop-seat g l = record {
  can_next : (goal.iterator-loop-seat g).can_next l.seat-iterator;
  is_finite : (goal.iterator-loop-seat g).is_finite l.seat-iterator;
  passes : l.passes.items ++ map pass_of l.seat-iterator.rest.items ≡ map pass_of l.fn.seats.items;
  tied : All (λ p. journal p.seat p.trace ≡ p.told ++ p.turn.entries) l.passes.items;
  gates : l.gates.items ++ gates_in l.seat-iterator.rest.items ≡ gates_in l.fn.seats.items;
  passes_fit : length l.passes.items + length l.seat-iterator.rest.items ≤ vec_capacity l.passes;
  gates_fit : length l.gates.items + length (gates_in l.seat-iterator.rest.items) ≤ vec_capacity l.gates;
  capacity : vec_capacity l.gates ≡ vec_capacity l.initial.gates;
}
