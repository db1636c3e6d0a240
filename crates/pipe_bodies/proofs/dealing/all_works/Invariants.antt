use Rattle.std.proofs.Common.{◌≡◌, ◌++◌, map}
use Rattle.std.specs.Prelude.{Some}
use Rattle.pipe_bodies.proofs.dealing.all_works.Given as goal

abbrev pub invariant-loop-custom : goal.invariant-loop-custom
invariant-loop-custom g l = record {
  can_next : (goal.iterator-loop-custom g).can_next l.custom-iterator;
  is_finite : (goal.iterator-loop-custom g).is_finite l.custom-iterator;
  all : l.yielded ++ l.custom-iterator.rest.items ≡ l.fn.customs.items;
  works : l.works.items ≡ map Some l.yielded;
}
