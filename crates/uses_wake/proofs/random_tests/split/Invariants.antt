use Rattle.std.proofs.Common.{◌≡◌, ◌++◌, map, true}
use Rattle.uses_wake.specs.declared.random_tests.Worked.{Worked}
use Rattle.word_table.specs.Ruled.{Each}
use Rattle.uses_wake.proofs.random_tests.split.Given as goal

abbrev pub invariant-loop-worked : goal.invariant-loop-worked
invariant-loop-worked l = record {
  can_next : (goal.iterator-loop-worked).can_next l.worked-iterator;
  is_finite : (goal.iterator-loop-worked).is_finite l.worked-iterator;
  all : l.yielded ++ l.worked-iterator.rest.items ≡ l.fn.done.items;
  passes : l.passes.items ≡ map (λ (w : Worked). w.pass) l.yielded;
  fine : Each (λ (w : Worked). w.fine ≡ true) l.yielded;
}
