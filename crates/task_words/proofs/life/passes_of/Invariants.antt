use Rattle.std.proofs.Common.{◌≡◌, ◌++◌, [], map, length}
use Rattle.std.specs.Vec.{vec_len, vec_capacity}
use Rattle.task_words.specs.Closing.{new_pass}
use Rattle.task_words.specs.Views.{PassView}
use Rattle.word_table.specs.Ruled.{Each}
use Rattle.word_table.specs.Views.{TokenView}
use Rattle.task_words.proofs.life.passes_of.Given as goal

abbrev pub invariant-loop-token : goal.invariant-loop-token
invariant-loop-token l = record {
  can_next : (goal.iterator-loop-token).can_next l.token-iterator;
  is_finite : (goal.iterator-loop-token).is_finite l.token-iterator;
  traces : Each (λ (t : TokenView). t.trace ≡ []) l.token-iterator.rest.items;
  tasks : Each (λ (t : TokenView). t.shape.tasks ≡ l.tasks) l.token-iterator.rest.items;
  all : l.yielded ++ l.token-iterator.rest.items ≡ l.fn.tokens.items;
  passes : l.passes.items ≡ map (λ (t : TokenView). let p : PassView = new_pass t.of t.shape t.lasting t.seat in p) l.yielded;
  full : vec_len l.passes ≡ length l.yielded;
  room : vec_capacity l.passes ≡ vec_capacity l.initial.passes;
}
